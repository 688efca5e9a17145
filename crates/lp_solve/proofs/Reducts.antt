-- What is shown of an answer that the program tells is shown of the definition's.
use Rattle.std.proofs.Common.{◌≡◌, ℕ, zero, suc, ◌+◌, List, [], ◌∷◌, ◌++◌, map, Option, Some, None, refl, sym, ap, ◌∙◌, subst, inl, inr, arith, append_assoc}
use Rattle.std.specs.Prelude.{IsSome}
use Rattle.std.proofs.lemmas.Option.{same_Some}
use Rattle.lp_lemmas.specs.Each.{AnyOf}
use Rattle.lp_calculus.specs.Convert.{Anywhere, BetaEta, ReducesTo, done, here, by_beta, in_head, leftmost_step, option_term, or_else, steps, then_step}
use Rattle.lp_calculus.specs.Term.{Term, index, atom, abs, app, substitute}
use Rattle.lp_calculus.proofs.BetaEta.{many_on}
use Rattle.lp_term.proofs.Frames.{steps_more}
use Rattle.lp_model.specs.Branch.{Answer}
use Rattle.lp_model.specs.Look.{weak_step}
use Rattle.lp_model.specs.Pair.{Pair}
use Rattle.lp_model.specs.Shown.{Entry}
use Rattle.lp_model.specs.declared.answer.Answer as code
use Rattle.lp_show.specs.Forms.{AreForms, sides_of, values_of}
use Rattle.lp_plain.specs.Telling.{ArePairReducts, IsAnswerOf, IsReduct}
use Rattle.lp_solve.specs.Written.{AreLines, ArePairsShown, CannotBeShown, IsLines, IsShownAs, IsTooLarge}
use Rattle.lp_solve.specs.inner.Events.{plain}

-- a step at the head that leaves abstractions is a leftmost one
weak_leftmost : (t s : Term) → weak_step t ≡ Some s → leftmost_step t ≡ Some s
weak_leftmost (index i) s e = absurd (cc)
weak_leftmost (atom a) s e = absurd (cc)
weak_leftmost (abs b) s e = absurd (cc)
weak_leftmost (app (abs b) u) s e = e
weak_leftmost (app (index i) u) s e = absurd (cc)
weak_leftmost (app (atom a) u) s e = absurd (cc)
weak_leftmost (app (app t v) u) s e = go (weak_step (app t v)) refl e (λ r q. weak_leftmost (app t v) r q)
  where
    go : (o : Option Term) → weak_step (app t v) ≡ o → option_term (λ y. app y u) o ≡ Some s → ((r : Term) → weak_step (app t v) ≡ Some r → leftmost_step (app t v) ≡ Some r) →
        or_else (option_term (λ y. app y u) (leftmost_step (app t v))) (option_term (app (app t v)) (leftmost_step u)) ≡ Some s
    go None p q f = absurd (cc)
    go (Some r) p q f = ap (λ o. or_else (option_term (λ y. app y u) o) (option_term (app (app t v)) (leftmost_step u))) (f r p) ∙ q

weak_reduces : (t s : Term) → weak_step t ≡ Some s → Anywhere BetaEta t s
weak_reduces (index i) s e = absurd (cc)
weak_reduces (atom a) s e = absurd (cc)
weak_reduces (abs b) s e = absurd (cc)
weak_reduces (app (abs b) u) s e = subst (Anywhere BetaEta (app (abs b) u)) (same_Some (substitute u b) s e) (here (by_beta b u))
weak_reduces (app (index i) u) s e = absurd (cc)
weak_reduces (app (atom a) u) s e = absurd (cc)
weak_reduces (app (app t v) u) s e = go (weak_step (app t v)) refl e (λ r q. weak_reduces (app t v) r q)
  where
    go : (o : Option Term) → weak_step (app t v) ≡ o → option_term (λ y. app y u) o ≡ Some s →
        ((r : Term) → weak_step (app t v) ≡ Some r → Anywhere BetaEta (app t v) r) → Anywhere BetaEta (app (app t v) u) s
    go None p q f = absurd (cc)
    go (Some r) p q f = subst (Anywhere BetaEta (app (app t v) u)) (same_Some (app r u) s q) (in_head u (f r p))

-- so are several
abbrev turn : (Term → Option Term) → ℕ → Option Term → Option Term
turn f n o = elim o [ None ↦ None | Some r ↦ steps f n r ]

reduct_steps : (k : ℕ) (t s : Term) → steps weak_step k t ≡ Some s → steps leftmost_step k t ≡ Some s
reduct_steps zero t s e = e
reduct_steps (suc k) t s e = go (weak_step t) refl e (λ r q. reduct_steps k r s q)
  where
    go : (o : Option Term) → weak_step t ≡ o → turn weak_step k o ≡ Some s → ((r : Term) → steps weak_step k r ≡ Some s → steps leftmost_step k r ≡
        Some s) → turn leftmost_step k (leftmost_step t) ≡ Some s
    go None p q f = absurd (cc)
    go (Some r) p q f = ap (turn leftmost_step k) (weak_leftmost t r p) ∙ f r q

reduct_reduces : (k : ℕ) (t s : Term) → steps weak_step k t ≡ Some s → ReducesTo t s
reduct_reduces zero t s e = subst (ReducesTo t) (same_Some t s e) (done t)
reduct_reduces (suc k) t s e = go (weak_step t) refl e (λ r q. reduct_reduces k r s q)
  where
    go : (o : Option Term) → weak_step t ≡ o → turn weak_step k o ≡ Some s → ((r : Term) → steps weak_step k r ≡ Some s → ReducesTo r s) → ReducesTo t s
    go None p q f = absurd (cc)
    go (Some r) p q f = then_step (weak_reduces t r p) (f r q)

-- fewer steps can be taken where more can
fewer_steps : (n m : ℕ) (t : Term) → IsSome (steps leftmost_step (n + m) t) → IsSome (steps leftmost_step n t)
fewer_steps zero m t h = refl
fewer_steps (suc n) m t h = let e : suc n + m ≡ suc (n + m) = omega arith in go (leftmost_step t) (subst (λ j. IsSome (steps leftmost_step j t)) e h) (λ r k. fewer_steps n m r k)
  where
    go : (o : Option Term) → IsSome (turn leftmost_step (n + m) o) → ((r : Term) → IsSome (steps leftmost_step (n + m) r) → IsSome (steps leftmost_step n r)) → IsSome (turn leftmost_step n o)
    go None h f = h
    go (Some r) h f = f r h

large_before : (t s : Term) → IsReduct t s → IsTooLarge s → IsTooLarge t
large_before t s (k, e) (inl h) =
    let turned : k + 1000001 ≡ 1000001 + k = omega arith in
    inl (fewer_steps 1000001 k t (subst (λ j. IsSome (steps leftmost_step j t)) turned (subst IsSome (sym (steps_more k 1000001 t s (reduct_steps k t s e))) h)))
large_before t s (k, e) (inr (r, form, n)) = inr (r, (many_on (reduct_reduces k t s e) form.0, form.1), n)

shown_before : (t s r : Term) → IsReduct t s → IsShownAs s r → IsShownAs t r
shown_before t s r (k, e) h = record { form = (many_on (reduct_reduces k t s e) h.form.0, h.form.1); small = h.small }

-- pairs
pairs_before : (ps qs : List Pair) (forms : List (Term × Term)) → ArePairReducts ps qs → ArePairsShown qs forms → ArePairsShown ps forms
pairs_before [] [] forms r h = h
pairs_before [] (q ∷ qs) forms r h = absurd (r)
pairs_before (p ∷ ps) [] forms r h = absurd (r)
pairs_before (p ∷ ps) (q ∷ qs) [] r h = h
pairs_before (p ∷ ps) (q ∷ qs) (f ∷ fs) (level, left, right, more) (x, y, rest) =
    (shown_before p.left q.left f.0 left x, shown_before p.right q.right f.1 right y, pairs_before ps qs fs more rest)

abbrev sides : List Pair → List Term
sides ps = sides_of (map (λ p. (p.left, p.right)) ps)

large_pair : (ps qs : List Pair) → ArePairReducts ps qs → AnyOf IsTooLarge (sides qs) → AnyOf IsTooLarge (sides ps)
large_pair [] [] r h = h
large_pair [] (q ∷ qs) r h = absurd (r)
large_pair (p ∷ ps) [] r h = absurd (h)
large_pair (p ∷ ps) (q ∷ qs) (level, left, right, more) (inl h) = inl (large_before p.left q.left left h)
large_pair (p ∷ ps) (q ∷ qs) (level, left, right, more) (inr (inl h)) = inr (inl (large_before p.right q.right right h))
large_pair (p ∷ ps) (q ∷ qs) (level, left, right, more) (inr (inr h)) = inr (inr (large_pair ps qs more h))

large_behind : (ts us vs : List Term) → (AnyOf IsTooLarge us → AnyOf IsTooLarge vs) → AnyOf IsTooLarge (ts ++ us) → AnyOf IsTooLarge (ts ++ vs)
large_behind [] us vs f h = f h
large_behind (t ∷ ts) us vs f (inl h) = inl h
large_behind (t ∷ ts) us vs f (inr h) = inr (large_behind ts us vs f h)

-- an answer, and answers one by one
pub lines_before : (es : List Entry) (ns : List (List ℕ)) (k : ℕ) (x : Answer) (a : code.Answer) (text : List ℕ) → IsAnswerOf x a → IsLines es ns k (plain a) text → IsLines es ns k x text
lines_before es ns k x a text is h = record {
  forms = h.forms;
  sides = h.sides;
  are_forms = subst (λ ts. AreForms ns ts h.forms) is.values h.are_forms;
  are_sides = pairs_before x.pairs (plain a).pairs h.sides is.pairs h.are_sides;
  is = h.is;
}

pub large_answer : (ns : List (List ℕ)) (x : Answer) (a : code.Answer) → IsAnswerOf x a → CannotBeShown ns (plain a) → CannotBeShown ns x
large_answer ns x a is h =
    large_behind (values_of ns x.values) (sides (plain a).pairs) (sides x.pairs) (large_pair x.pairs (plain a).pairs is.pairs)
    (subst (λ ts. AnyOf IsTooLarge (values_of ns ts ++ sides (plain a).pairs)) is.values h)

abbrev pub AreAnswersOf : List Answer → List code.Answer → Type 0
AreAnswersOf [] [] = Unit {0}
AreAnswersOf [] (a ∷ bs) = ⊥
AreAnswersOf (x ∷ xs) [] = ⊥
AreAnswersOf (x ∷ xs) (a ∷ bs) = IsAnswerOf x a × AreAnswersOf xs bs

pub answers_more : (xs : List Answer) (bs : List code.Answer) (x : Answer) (a : code.Answer) → AreAnswersOf xs bs → IsAnswerOf x a → AreAnswersOf (xs ++ x ∷ []) (bs ++ a ∷ [])
answers_more [] [] x a h is = (is, tt)
answers_more [] (b ∷ bs) x a h is = absurd (h)
answers_more (y ∷ xs) [] x a h is = absurd (h)
answers_more (y ∷ xs) (b ∷ bs) x a (one, more) is = (one, answers_more xs bs x a more is)

pub all_lines_before : (es : List Entry) (ns : List (List ℕ)) (k : ℕ) (xs : List Answer) (bs : List code.Answer) (text : List ℕ) → AreAnswersOf xs bs
    → AreLines es ns k (map plain bs) text → AreLines es ns k xs text
all_lines_before es ns k [] [] text h l = l
all_lines_before es ns k [] (a ∷ bs) text h l = absurd (h)
all_lines_before es ns k (x ∷ xs) [] text h l = absurd (h)
all_lines_before es ns k (x ∷ xs) (a ∷ bs) text (one, more) (l, m, is, rest, w) = (l, m, lines_before es ns k x a l one is, all_lines_before es ns (suc k) xs bs m more rest, w)

-- the lines of the first ones
pub first_lines : (es : List Entry) (ns : List (List ℕ)) (k : ℕ) (xs ys : List Answer) (text : List ℕ) → AreLines es ns k (xs ++ ys) text →
    (t : List ℕ) × (u : List ℕ) × AreLines es ns k xs t × (text ≡ t ++ u)
first_lines es ns k [] ys text h = ([], text, refl, refl)
first_lines es ns k (x ∷ xs) ys text (l, m, is, rest, w) =
    let r = first_lines es ns (suc k) xs ys m rest in
    (l ++ r.0, r.1, (l, r.0, is, r.2, refl), w ∙ ap (λ z. l ++ z) r.3 ∙ sym (append_assoc l r.0 r.1))
