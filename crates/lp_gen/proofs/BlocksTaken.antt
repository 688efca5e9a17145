-- The ends of open blocks: what was said in them is one goal of the block around them.
use Rattle.std.proofs.Common.{◌≡◌, ◌∙◌, ℕ, suc, ◌+◌, List, [], ◌∷◌, ◌++◌, append_assoc, length, ap, refl, sym, arith}
use Rattle.std.specs.Prelude.{sum_by}
use Rattle.std.proofs.lemmas.List.{append-nil, length-append}
use Rattle.std.proofs.lemmas.List.Sums.{sum_by-append}
use Rattle.lp_calculus.specs.Types.{Ty}
use Rattle.lp_model.specs.Flat.{Goal, Goals, Clauses, Either, Forall, Assume, Not, no_goals}
use Rattle.lp_code.specs.declared.instruction.Instr.{Instr}
use Rattle.lp_code.specs.declared.instruction.Instr.TheVariants as on
use Rattle.lp_code.specs.Length.{length_of}
use Rattle.lp_code.specs.States.{with_goal}
use Rattle.lp_code.specs.Written.{nothing_written}
use Rattle.lp_gen.specs.Steps.{Around}
use Rattle.lp_gen.specs.inner.Bodies.{pushed}
use Rattle.lp_gen.specs.inner.GoalCode.{quantified, GoalCode, GoalsCode}
use Rattle.lp_gen.specs.inner.OpenGoals.{in_left, in_right, in_all, in_assumption, in_denial, OpenBlock, block, Walked, walked, Mark, mark, AreNoSigma, Start, Opens, Stands, cut_to, Closes, Leaves, RightLeaves, Turns}
use Rattle.lp_gen.proofs.Sides.{first_bytes}
use Rattle.lp_gen.proofs.StepsTaken.{cut_pushed, cut_same, no_sigma_more, goals_as, goals_more}

-- the code of a block, behind what is around it
regrouped : (code front last first js is e : List Instr) → code ≡ front ++ last → front ≡ (first ++ js) ++ is → code ++ e ≡ first ++ (js ++ (is ++ (last ++ e)))
regrouped code front last first js is e x y =
    ap (λ z. z ++ e) (x ∙ ap (λ z. z ++ last) y) ∙ append_assoc ((first ++ js) ++ is) last e ∙ append_assoc (first ++ js) is (last ++ e) ∙ append_assoc first js (is ++ (last ++ e))

module _ (P : Around → (records levels : List ℕ) → Clauses → Type 0) (K : ℕ → List Ty → Ty) (v : ℕ) (z : Start) where
  -- a goal more in the block around
  stands_more : (b : Around) (n1 n2 n k1 k2 k q1 q2 q : ℕ) (hs : Goals) (bs : List OpenBlock) (g : Goal) (first js is code : List Instr) (outer : List Mark) → Opens P K v z bs b n1 k1 q1 first outer →
      GoalsCode P K v b n1 n2 k1 k2 q1 q2 hs js → AreNoSigma hs → Rattle.lp_gen.specs.inner.OpenGoals.IsNoSigma g → GoalCode P K v b n2 n k2 k q2 q g is → code ≡ first ++ (js ++ is) →
      Stands P K v z (walked (with_goal hs g) bs) b n k q code outer
  stands_more b n1 n2 n k1 k2 k q1 q2 q hs bs g first js is code outer below before none plain c e = record {
    types = n1;
    terms = k1;
    next = q1;
    front = first;
    last = js ++ is;
    opens = below;
    goals_are = goals_more P K v b n1 n2 n k1 k2 k q1 q2 q hs js g is before none c;
    no_sigma = no_sigma_more hs g none plain;
    code_is = e;
  }

  all_by : (T : Ty) (gs hs : Goals) (bs : List OpenBlock) (a c : Around) (m n l k o q : ℕ) (code front last : List Instr) (ms : List Mark) → Opens P K v z (block (in_all T) hs ∷ bs) a m l o front ms →
      GoalsCode P K v a m n l k o q gs last → code ≡ front ++ last → a ≡ cut_to (length a.own) c → Leaves P K v z (walked (with_goal hs (Forall T gs)) bs) c n k q (code ++ on.EndAll ∷ []) ms
  all_by T gs hs bs a c m n l k o q code front last ms (b, n1, k1, q1, n2, k2, q2, first, js, is, outer, below, before, none, (ea, short, el, eo, r, ts, kind, eis, at, from, ems), efront) d e f =
      let inside = goals_as P K v a (pushed b (quantified k2 T)) m m n n l (k2 + 1) k k o q2 q q gs last ea refl refl el refl eo refl d in
      let tail = last ++ on.EndAll ∷ [] in
      record {
        around = b;
        outer = outer;
        at = at;
        from = from;
        marks_are = ems;
        left = cut_pushed a b c (quantified k2 T) ea f;
        stands = stands_more b n1 n2 n k1 k2 k q1 q2 q hs bs (Forall T gs) first js (ts ++ (on.All k2 r ∷ [] ++ tail)) (code ++ on.EndAll ∷ []) outer below before none tt
            (m, r, ts, last, kind, short, inside, refl)
            (regrouped code front last first js is (on.EndAll ∷ []) e efront ∙ ap (λ y. first ++ (js ++ (y ++ tail))) eis ∙ ap (λ y. first ++ (js ++ y)) (append_assoc ts (on.All k2 r ∷ []) tail));
      }

  pub all_leaves : (T : Ty) (gs hs : Goals) (bs : List OpenBlock) (c : Around) (n k q : ℕ) (code : List Instr) (ms : List Mark) → Closes P K v z
      (walked gs (block (in_all T) hs ∷ bs)) c n k q code ms →
      Leaves P K v z (walked (with_goal hs (Forall T gs)) bs) c n k q (code ++ on.EndAll ∷ []) ms
  all_leaves T gs hs bs c n k q code ms x = all_by T gs hs bs x.around c x.types n x.terms k x.next q code x.front x.last ms x.opens x.goals_are x.code_is x.left

  assumption_by : (cs : Clauses) (gs hs : Goals) (bs : List OpenBlock) (a c : Around) (m n l k o q : ℕ) (code front last : List Instr)
      (ms : List Mark) → Opens P K v z (block (in_assumption cs) hs ∷ bs) a m l o front ms →
      GoalsCode P K v a m n l k o q gs last → code ≡ front ++ last → a ≡ cut_to (length a.own) c →
      Leaves P K v z (walked (with_goal hs (Assume nothing_written cs gs)) bs) c n k q (code ++ on.EndAssume ∷ []) ms
  assumption_by cs gs hs bs a c m n l k o q code front last ms
      (b, n1, k1, q1, n2, k2, q2, first, js, is, outer, below, before, none, (ea, en, ek, ns, ts, rs, ls, coded, are, types, named, eo, eis, at, from, ems), efront) d e f =
      let inside = goals_as P K v a b m n2 n n l k2 k k o (q2 + length ns.items) q q gs last ea en refl ek refl eo refl d in
      let tail = last ++ on.EndAssume ∷ [] in
      record {
        around = b;
        outer = outer;
        at = at;
        from = from;
        marks_are = ems;
        left = cut_same a b c ea f;
        stands = stands_more b n1 n2 n k1 k2 k q1 q2 q hs bs (Assume nothing_written cs gs) first js (on.Assume ns ts rs ∷ [] ++ tail) (code ++ on.EndAssume ∷ []) outer below before none tt
            (ns, ts, rs, ls, last, coded, are, types, named, inside, refl)
            (regrouped code front last first js is (on.EndAssume ∷ []) e efront ∙ ap (λ y. first ++ (js ++ (y ++ tail))) eis);
      }

  pub assumption_leaves : (cs : Clauses) (gs hs : Goals) (bs : List OpenBlock) (c : Around) (n k q : ℕ) (code : List Instr) (ms : List Mark) → Closes
      P K v z (walked gs (block (in_assumption cs) hs ∷ bs)) c n k q code ms →
      Leaves P K v z (walked (with_goal hs (Assume nothing_written cs gs)) bs) c n k q (code ++ on.EndAssume ∷ []) ms
  assumption_leaves cs gs hs bs c n k q code ms x = assumption_by cs gs hs bs x.around c x.types n x.terms k x.next q code x.front x.last ms x.opens x.goals_are x.code_is x.left

  denial_by : (gs hs : Goals) (bs : List OpenBlock) (a c : Around) (m n l k o q : ℕ) (code front last : List Instr) (ms : List Mark) → Opens P K v z (block in_denial hs ∷ bs) a m l o front ms →
      GoalsCode P K v a m n l k o q gs last → code ≡ front ++ last → a ≡ cut_to (length a.own) c →
      Leaves P K v z (walked (with_goal hs (Not nothing_written gs)) bs) c n k q (code ++ on.EndNot ∷ []) ms
  denial_by gs hs bs a c m n l k o q code front last ms (b, n1, k1, q1, n2, k2, q2, first, js, is, outer, below, before, none, (ea, en, ek, eo, eis, at, from, ems), efront) d e f =
      let inside = goals_as P K v a b m n2 n n l k2 k k o q2 q q gs last ea en refl ek refl eo refl d in
      let tail = last ++ on.EndNot ∷ [] in
      record {
        around = b;
        outer = outer;
        at = at;
        from = from;
        marks_are = ems;
        left = cut_same a b c ea f;
        stands = stands_more b n1 n2 n k1 k2 k q1 q2 q hs bs (Not nothing_written gs) first js (on.Not ∷ [] ++ tail) (code ++ on.EndNot ∷ []) outer below before none tt (last, inside, refl)
            (regrouped code front last first js is (on.EndNot ∷ []) e efront ∙ ap (λ y. first ++ (js ++ (y ++ tail))) eis);
      }

  pub denial_leaves : (gs hs : Goals) (bs : List OpenBlock) (c : Around) (n k q : ℕ) (code : List Instr) (ms : List Mark) → Closes P K v z (walked gs (block in_denial hs ∷ bs)) c n k q code ms →
      Leaves P K v z (walked (with_goal hs (Not nothing_written gs)) bs) c n k q (code ++ on.EndNot ∷ []) ms
  denial_leaves gs hs bs c n k q code ms x = denial_by gs hs bs x.around c x.types n x.terms k x.next q code x.front x.last ms x.opens x.goals_are x.code_is x.left

  -- the left side gives way to the right one
  turn_by : (gs hs : Goals) (bs : List OpenBlock) (a c : Around) (m n l k o q : ℕ) (code front last : List Instr) (ms : List Mark) → Opens P K v z (block in_left hs ∷ bs) a m l o front ms →
      GoalsCode P K v a m n l k o q gs last → code ≡ front ++ last → a ≡ cut_to (length a.own) c → Turns P K v z (walked no_goals (block (in_right gs) hs ∷ bs)) c n k q code ms
  turn_by gs hs bs a c m n l k o q code front last ms (b, n1, k1, q1, n2, k2, q2, first, js, is, outer, below, before, none, (ea, en, ek, eo, eis, ems), efront) d e f =
      let inside = goals_as P K v a b m n2 n n l k2 k k o q2 q q gs last ea en refl ek refl eo refl d in
      let front1 = first ++ js in
      let whole : code ≡ front1 ++ on.Either 0 ∷ last = e ∙ ap (λ y. y ++ last) (efront ∙ ap (λ y. front1 ++ y) eis) ∙ append_assoc front1 (on.Either 0 ∷ []) last in
      let many = ap length whole ∙ length-append front1 (on.Either 0 ∷ last) in
      let one : length (on.Either 0 ∷ last) ≡ suc (length last) = refl in
      let bytes = ap (sum_by length_of) whole ∙ sum_by-append length_of front1 (on.Either 0 ∷ last) in
      let five = first_bytes (on.Either 0) last in
      record {
        around = b;
        outer = outer;
        from = sum_by length_of front1;
        lead = front1;
        rest = last;
        marks_are = ems;
        left = cut_same a b c ea f;
        code_is = whole;
        from_low = omega (arith, bytes, five);
        stands = λ nl enl.
            let at_is : length front1 + (1 + length last) ≡ length code = omega (arith, many, one) in
            let from_is : sum_by length_of front1 + (5 + sum_by length_of last) ≡ sum_by length_of code = omega (arith, bytes, five) in
            record {
              types = n;
              terms = k;
              next = q;
              front = front1 ++ on.Either nl ∷ (last ++ on.Jump 0 ∷ []);
              last = [];
              opens = (
                b,
                n1,
                k1,
                q1,
                n2,
                k2,
                q2,
                first,
                js,
                on.Either nl ∷ (last ++ on.Jump 0 ∷ []),
                outer,
                below,
                before,
                none,
                (refl, nl, last, inside, omega (arith, enl, bytes, five), refl, (λ i. mark b (sym at_is i) (sym from_is i) ∷ outer)),
                refl,
              );
              goals_are = (refl, refl, refl, refl);
              no_sigma = tt;
              code_is = sym (append-nil (front1 ++ on.Either nl ∷ (last ++ on.Jump 0 ∷ [])));
            };
      }

  pub turn_taken : (gs hs : Goals) (bs : List OpenBlock) (c : Around) (n k q : ℕ) (code : List Instr) (ms : List Mark) → Closes P K v z (walked gs (block in_left hs ∷ bs)) c n k q code ms →
      Turns P K v z (walked no_goals (block (in_right gs) hs ∷ bs)) c n k q code ms
  turn_taken gs hs bs c n k q code ms x = turn_by gs hs bs x.around c x.types n x.terms k x.next q code x.front x.last ms x.opens x.goals_are x.code_is x.left

  right_by : (left gs hs : Goals) (bs : List OpenBlock) (a c : Around) (m n l k o q : ℕ) (code front last : List Instr) (ms : List Mark) → Opens P K v
      z (block (in_right left) hs ∷ bs) a m l o front ms →
      GoalsCode P K v a m n l k o q gs last → code ≡ front ++ last → a ≡ cut_to (length a.own) c → RightLeaves P K v z (walked (with_goal hs (Either left gs)) bs) c n k q code ms
  right_by left gs hs bs a c m n l k o q code front last ms (b, n1, k1, q1, n2, k2, q2, first, js, is, outer, below, before, none, (ea, nl, ls, cl, enl, eis, ems), efront) d e f =
      let inside = goals_as P K v a b m m n n l l k k o o q q gs last ea refl refl refl refl refl refl d in
      let front1 = first ++ js in
      let lead = front1 ++ on.Either nl ∷ ls in
      let whole : code ≡ lead ++ on.Jump 0 ∷ last =
      e ∙ ap (λ y. y ++ last) (efront ∙ ap (λ y. front1 ++ y) eis ∙ sym (append_assoc front1 (on.Either nl ∷ ls) (on.Jump 0 ∷ []))) ∙ append_assoc lead (on.Jump 0 ∷ []) last in
      let many = length-append front1 (on.Either nl ∷ ls) in
      let one : length (on.Either nl ∷ ls) ≡ suc (length ls) = refl in
      let at_is : length front1 + (1 + length ls) ≡ length lead = omega (arith, many, one) in
      let bytes = ap (sum_by length_of) whole ∙ sum_by-append length_of lead (on.Jump 0 ∷ last) in
      let parts = sum_by-append length_of front1 (on.Either nl ∷ ls) in
      let five = first_bytes (on.Either nl) ls in
      let five2 = first_bytes (on.Jump 0) last in
      record {
        around = b;
        outer = outer;
        from = sum_by length_of front1 + (5 + sum_by length_of ls);
        lead = lead;
        rest = last;
        marks_are = ems ∙ (λ i. mark b (at_is i) (sum_by length_of front1 + (5 + sum_by length_of ls)) ∷ outer);
        left = cut_same a b c ea f;
        code_is = whole;
        from_low = omega (arith, bytes, parts, five, five2);
        stands = λ mr emr.
            stands_more b n1 n2 n k1 k2 k q1 q2 q hs bs (Either left gs) first js (on.Either nl ∷ (ls ++ on.Jump mr ∷ last)) (lead ++ on.Jump mr ∷ last) outer below before none tt
            (m, l, o, nl, mr, ls, last, cl, inside, enl, omega (arith, emr, bytes, parts, five, five2), refl)
            (append_assoc front1 (on.Either nl ∷ ls) (on.Jump mr ∷ last) ∙ append_assoc first js (on.Either nl ∷ (ls ++ on.Jump mr ∷ last)));
      }

  pub right_leaves : (left gs hs : Goals) (bs : List OpenBlock) (c : Around) (n k q : ℕ) (code : List Instr) (ms : List Mark) → Closes P K v z
      (walked gs (block (in_right left) hs ∷ bs)) c n k q code ms →
      RightLeaves P K v z (walked (with_goal hs (Either left gs)) bs) c n k q code ms
  right_leaves left gs hs bs c n k q code ms x = right_by left gs hs bs x.around c x.types n x.terms k x.next q code x.front x.last ms x.opens x.goals_are x.code_is x.left
