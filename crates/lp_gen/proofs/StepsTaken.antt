-- The code of goals and of open blocks, step by step.
use Rattle.std.proofs.Common.{◌≡◌, ◌∙◌, ◌≤◌, ℕ, zero, suc, ◌+◌, List, [], ◌∷◌, ◌++◌, append_assoc, take, length, ap, refl, sym, subst, arith}
use Rattle.std.proofs.lemmas.List.{append-nil, length-append}
use Rattle.lp_calculus.specs.Types.{Ty}
use Rattle.lp_model.specs.Flat.{Goal, Goals, Clauses, Atomic, Cut, Either, Exists, Forall, Assume, Not, no_goals, goals}
use Rattle.lp_code.specs.declared.instruction.Instr.{Instr}
use Rattle.lp_code.specs.declared.instruction.Instr.TheVariants as on
use Rattle.lp_code.specs.States.{with_goal}
use Rattle.lp_gen.specs.Sources.{ends_list}
use Rattle.lp_gen.specs.Steps.{Seen, Around}
use Rattle.lp_gen.specs.inner.Bodies.{pushed}
use Rattle.lp_gen.specs.inner.GoalCode.{quantified, GoalCode, GoalsCode}
use Rattle.lp_gen.specs.inner.OpenGoals.{Opening, in_left, in_right, in_some, in_all, in_assumption, in_denial, OpenBlock, block, Walked, walked, closed, into, Mark, IsNoSigma, AreNoSigma, OpensBy, Start, Opens, Stands, cut_to, Closes}

-- lists

take_length : {A : Type 0} (xs ys : List A) → take (length xs) (xs ++ ys) ≡ xs
take_length [] ys = refl
take_length (x ∷ xs) ys = ap (λ l. x ∷ l) (take_length xs ys)

take_own : {A : Type 0} (xs : List A) → take (length xs) xs ≡ xs
take_own [] = refl
take_own (x ∷ xs) = ap (λ l. x ∷ l) (take_own xs)

take_twice : {A : Type 0} (n m : ℕ) (xs : List A) → n ≤ m → take n (take m xs) ≡ take n xs
take_twice zero m xs le = refl
take_twice (suc n) zero xs le = absurd (omega (arith, le))
take_twice (suc n) (suc m) [] le = refl
take_twice (suc n) (suc m) (x ∷ xs) le = ap (λ l. x ∷ l) (take_twice n m xs (omega (arith, le)))

cut_itself : (a : Around) → a ≡ cut_to (length a.own) a
cut_itself a = λ i. record { own = sym (take_own a.own) i; base = a.base; captured = a.captured }

pub cut_pushed : (a b c : Around) (v : Seen) → a ≡ pushed b v → a ≡ cut_to (length a.own) c → b ≡ cut_to (length b.own) c
cut_pushed a b c v e f =
    let less : length b.own ≤ length a.own = (let z = length-append b.own (v ∷ []) in let y = ap (λ (x : Around). length x.own) e in omega (arith, z, y)) in
    (λ i. record { own = sym (take_length b.own (v ∷ [])) i; base = b.base; captured = b.captured }) ∙ ap (cut_to (length b.own)) (sym e ∙ f)
    ∙ (λ i. record { own = take_twice (length b.own) (length a.own) c.own less i; base = c.base; captured = c.captured })

pub cut_same : (a b c : Around) → a ≡ b → a ≡ cut_to (length a.own) c → b ≡ cut_to (length b.own) c
cut_same a b c e f = subst (λ x. x ≡ cut_to (length x.own) c) e f

-- goals and one more

ends_none : (g : Goal) → ends_list g no_goals
ends_none (Atomic t) = tt
ends_none Cut = tt
ends_none (Either gs hs) = tt
ends_none (Exists T gs) = refl
ends_none (Forall T gs) = tt
ends_none (Assume w cs gs) = tt
ends_none (Not w gs) = tt

ends_other : (g : Goal) (gs : Goals) → IsNoSigma g → ends_list g gs
ends_other (Atomic t) gs x = tt
ends_other Cut gs x = tt
ends_other (Either gs hs) rest x = tt
ends_other (Exists T gs) rest x = absurd x
ends_other (Forall T gs) rest x = tt
ends_other (Assume w cs gs) rest x = tt
ends_other (Not w gs) rest x = tt

pub no_sigma_more : (gs : Goals) (g : Goal) → AreNoSigma gs → IsNoSigma g → AreNoSigma (with_goal gs g)
no_sigma_more no_goals g x y = (y, tt)
no_sigma_more (goals h gs) g x y = (x.0, no_sigma_more gs g x.1 y)

module _ (P : Around → (records levels : List ℕ) → Clauses → Type 0) (K : ℕ → List Ty → Ty) (v : ℕ) where
  -- the same code by other numbers
  pub goals_as : (a b : Around) (n n1 m m1 k k1 l l1 q q1 r r1 : ℕ) (gs : Goals) (is : List Instr) → a ≡ b → n ≡ n1 → m ≡ m1 → k ≡ k1 → l ≡ l1 → q ≡ q1 → r ≡ r1 → GoalsCode P K v a n m k l q r gs is →
      GoalsCode P K v b n1 m1 k1 l1 q1 r1 gs is
  goals_as a b n n1 m m1 k k1 l l1 q q1 r r1 gs is ea en em ek el eq er c =
      subst (λ z. GoalsCode P K v b n1 m1 k1 l1 q1 z gs is) er (subst (λ z. GoalsCode P K v b n1 m1 k1 l1 z r gs is) eq (subst (λ z. GoalsCode P K v b n1 m1 k1 z q r gs is) el
      (subst (λ z. GoalsCode P K v b n1 m1 z l q r gs is) ek (subst (λ z. GoalsCode P K v b n1 z k l q r gs is) em (subst (λ z. GoalsCode P K v b z m k l q r gs is) en
      (subst (λ z. GoalsCode P K v z n m k l q r gs is) ea c))))))

  goal_from : (a : Around) (n n1 m k k1 l q q1 r : ℕ) (g : Goal) (is : List Instr) → n ≡ n1 → k ≡ k1 → q ≡ q1 → GoalCode P K v a n m k l q r g is → GoalCode P K v a n1 m k1 l q1 r g is
  goal_from a n n1 m k k1 l q q1 r g is en ek eq c =
      subst (λ z. GoalCode P K v a n1 m k1 l z r g is) eq (subst (λ z. GoalCode P K v a n1 m z l q r g is) ek (subst (λ z. GoalCode P K v a z m k l q r g is) en c))

  pub goals_more : (a : Around) (n m o k l p q r t : ℕ) (gs : Goals) (js : List Instr) (g : Goal) (is : List Instr) → GoalsCode P K v a n m k l q r gs
      js → AreNoSigma gs → GoalCode P K v a m o l p r t g is →
      GoalsCode P K v a n o k p q t (with_goal gs g) (js ++ is)
  goals_more a n m o k l p q r t no_goals js g is (e0, e1, e2, e3) none c =
      (o, p, t, is, [], goal_from a m n o l k p r q t g is e0 e1 e2 c, (refl, refl, refl, refl), ends_none g, ap (λ z. z ++ is) e3 ∙ sym (append-nil is))
  goals_more a n m o k l p q r t (goals h gs) js g is (m1, l1, r1, js1, ks1, c1, d1, last, e) none c = (
    m1,
    l1,
    r1,
    js1,
    ks1 ++ is,
    c1,
    goals_more a m1 m o l1 l p r1 r t gs ks1 g is d1 none.1 c,
    ends_other h (with_goal gs g) none.0,
    ap (λ z. z ++ is) e ∙ append_assoc js1 ks1 is,
  )

  module _ (z : Start) where
    pub said_more : (w : Walked) (a : Around) (n m k l q r : ℕ) (code : List Instr) (ms : List Mark) (g : Goal) (is : List Instr) → Stands P K v z w a n k q code ms → IsNoSigma g →
        GoalCode P K v a n m k l q r g is → Stands P K v z (walked (with_goal w.said g) w.opened) a m l r (code ++ is) ms
    said_more w a n m k l q r code ms g is x none c = record {
      types = x.types;
      terms = x.terms;
      next = x.next;
      front = x.front;
      last = x.last ++ is;
      opens = x.opens;
      goals_are = goals_more a x.types n m x.terms k l x.next q r w.said x.last g is x.goals_are x.no_sigma c;
      no_sigma = no_sigma_more w.said g x.no_sigma none;
      code_is = ap (λ l. l ++ is) x.code_is ∙ append_assoc x.front x.last is;
    }

    pub opened_more : (w : Walked) (o : Opening) (a b : Around) (n m k l q r : ℕ) (code : List Instr) (ms marks : List Mark) (is : List Instr) → Stands P K v z w a n k q code ms →
        OpensBy P K v o a n k q code b m l r is ms marks → Stands P K v z (into o w) b m l r (code ++ is) marks
    opened_more w o a b n m k l q r code ms marks is x c = record {
      types = m;
      terms = l;
      next = r;
      front = code ++ is;
      last = [];
      opens = (
        a,
        x.types,
        x.terms,
        x.next,
        n,
        k,
        q,
        x.front,
        x.last,
        is,
        ms,
        x.opens,
        x.goals_are,
        x.no_sigma,
        subst (λ y. OpensBy P K v o a n k q y b m l r is ms marks) x.code_is c,
        ap (λ y. y ++ is) x.code_is,
      );
      goals_are = (refl, refl, refl, refl);
      no_sigma = tt;
      code_is = sym (append-nil (code ++ is));
    }

    -- each `sigma` of the innermost block ends
    sigmas_end : (bs : List OpenBlock) (gs : Goals) (a c : Around) (m n l k o q : ℕ) (code front last : List Instr) (ms : List Mark) → Opens P K v z
        bs a m l o front ms → GoalsCode P K v a m n l k o q gs last →
        code ≡ front ++ last → a ≡ cut_to (length a.own) c → Closes P K v z (closed gs bs) c n k q code ms
    sigmas_end [] gs a c m n l k o q code front last ms x d e f = record { around = a; types = m; terms = l; next = o; front = front; last = last; opens = x; goals_are = d; code_is = e; left = f }
    sigmas_end (block in_left b ∷ bs) gs a c m n l k o q code front last ms x d e f =
        record { around = a; types = m; terms = l; next = o; front = front; last = last; opens = x; goals_are = d; code_is = e; left = f }
    sigmas_end (block (in_right g) b ∷ bs) gs a c m n l k o q code front last ms x d e f =
        record { around = a; types = m; terms = l; next = o; front = front; last = last; opens = x; goals_are = d; code_is = e; left = f }
    sigmas_end (block (in_all T) b ∷ bs) gs a c m n l k o q code front last ms x d e f =
        record { around = a; types = m; terms = l; next = o; front = front; last = last; opens = x; goals_are = d; code_is = e; left = f }
    sigmas_end (block (in_assumption cs) b ∷ bs) gs a c m n l k o q code front last ms x d e f =
        record { around = a; types = m; terms = l; next = o; front = front; last = last; opens = x; goals_are = d; code_is = e; left = f }
    sigmas_end (block in_denial b ∷ bs) gs a c m n l k o q code front last ms x d e f =
        record { around = a; types = m; terms = l; next = o; front = front; last = last; opens = x; goals_are = d; code_is = e; left = f }
    sigmas_end (block (in_some T) hs ∷ bs) gs a c m n l k o q code front last ms (
      b,
      n1,
      k1,
      q1,
      n2,
      k2,
      q2,
      first,
      js,
      is,
      outer,
      below,
      before,
      none,
      (ea, short, el, eo, r, ts, kind, eis, ems),
      efront,
    ) d e f =
        let inside = goals_as a (pushed b (quantified k2 T)) m m n n l (k2 + 1) k k o q2 q q gs last ea refl refl el refl eo refl d in
        sigmas_end bs (with_goal hs (Exists T gs)) b c n1 n k1 k q1 q code first (js ++ (ts ++ (on.Sigma k2 r ∷ [] ++ last))) ms (subst (Opens P K v z bs b n1 k1 q1 first) (sym ems) below)
        (goals_more b n1 n2 n k1 k2 k q1 q2 q hs js (Exists T gs) (ts ++ (on.Sigma k2 r ∷ [] ++ last)) before none (m, r, ts, last, kind, short, inside, refl))
        (e ∙ ap (λ y. y ++ last) efront ∙ (λ i. ((first ++ js) ++ eis i) ++ last) ∙ append_assoc (first ++ js) (ts ++ on.Sigma k2 r ∷ []) last
        ∙ ap (λ y. (first ++ js) ++ y) (append_assoc ts (on.Sigma k2 r ∷ []) last) ∙ append_assoc first js (ts ++ (on.Sigma k2 r ∷ [] ++ last))) (cut_pushed a b c (quantified k2 T) ea f)

    pub block_closes : (w : Walked) (a : Around) (n k q : ℕ) (code : List Instr) (ms : List Mark) → Stands P K v z w a n k q code ms → Closes P K v z (closed w.said w.opened) a n k q code ms
    block_closes w a n k q code ms x =
        sigmas_end w.opened w.said a a x.types n x.terms k x.next q code x.front x.last ms x.opens x.goals_are x.code_is (cut_itself a)
