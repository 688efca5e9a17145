-- A moved record runs as the record did, and denotes its clause moved.
use Rattle.std.proofs.Common.{◌≡◌, ◌∙◌, ℕ, zero, suc, List, [], ◌∷◌, map, length, Bool, true, false, Option, Some, None, ap, refl, sym}
use Rattle.std.specs.Prelude.{option_map, if◌then◌else◌, nat_eq, ◌||◌}
use Rattle.lp_lemmas.proofs.Booleans.{or_false_left, or_false_right}
use Rattle.lp_calculus.specs.Term.{apply}
use Rattle.lp_term.specs.Mapped.{Map, mapped, mapped_type}
use Rattle.lp_model.specs.Flat.{Clause, Goals, clause}
use Rattle.lp_code.specs.declared.instruction.Instr.{Instr}
use Rattle.lp_code.specs.declared.rule.Rule.{Rule}
use Rattle.lp_code.specs.declared.rule.Rule.TheVariants as rule
use Rattle.lp_code.specs.Symbolic.{plain_terms}
use Rattle.lp_code.specs.States.{Captured, State, Home, bind_term, bind_goals}
use Rattle.lp_code.specs.Written.{written_goals}
use Rattle.lp_code.specs.Steps.{Later, own_variables, head_built, after}
use Rattle.lp_code.specs.Rules.{breaks_type}
use Rattle.lp_code.specs.Denote.{broken_by_record, broken_by, rules, first_broken, broken_of, Ran, Done, Broken, Void, unless_broken, run_on, run, from_zero, started, first_state, variable_types, head_term, clause_of, clause_ran, denoted}
use Rattle.lp_link.specs.Renumbering.{moving, IsMoved, AllMoved, IsMovedRecord, KeepsStandard}
use Rattle.lp_link.specs.inner.Renumbering.{moved_built, moved_goals, moved_captured, moved_state, IsMovedHome}
use Rattle.lp_link.proofs.MovedTerms.{apply_moved}
use Rattle.lp_link.proofs.MovedGoals.{bind_moved, goals_bound}
use Rattle.lp_link.proofs.MovedStates.{plain_moved}
use Rattle.lp_link.proofs.MovedEffects.{moved_clause, IsMovedLater, own_types_same, own_variables_same, head_moved, term_same, after_moved}
use Rattle.lp_link.proofs.MovedFaults.{register_kept, unset_kept, set_kept, index_kept, constant_kept, term_kept, order_kept, type_rule_kept, head_kept, block_kept, clause_kept}
use Rattle.lp_link.proofs.MovedRecords.{whole_kept}
use Rattle.lp_link.proofs.MovedWritten.{no_deeper, goals_written}

-- no rule is broken

pub one_more : (test : Rule → Bool) (r : Rule) (rs : List Rule) → first_broken test (r ∷ rs) ≡ None → (test r ≡ false) × (first_broken test rs ≡ None)
one_more test r rs e = by (test r) e
  where
    by : (b : Bool) → (if b then Some r else first_broken test rs) ≡ None → (b ≡ false) × (first_broken test rs ≡ None)
    by true e = absurd (let z : Some r ≡ None = e in cc)
    by false e = (refl, e)

first_kept : (t u : Rule → Bool) → ((r : Rule) → t r ≡ false → u r ≡ false) → (rs : List Rule) → first_broken t rs ≡ None → first_broken u rs ≡ None
first_kept t u h [] e = refl
first_kept t u h (r ∷ rs) e =
    let now = one_more t r rs e in
    ap (λ b. if b then Some r else first_broken u rs) (h r now.0) ∙ first_kept t u h rs now.1

-- the rule on types, which is the fifth one
typing_kept : (test : Rule → Bool) → first_broken test rules ≡ None → test rule.Typing ≡ false
typing_kept test e =
    let a = one_more test rule.Register (rule.Unset ∷ rule.Set ∷ rule.Constant ∷ rule.Typing ∷ rule.Index ∷ rule.Term ∷ rule.Order ∷ rule.Head ∷ rule.Block ∷ rule.Clause ∷ rule.Key ∷ []) e in
    let b = one_more test rule.Unset (rule.Set ∷ rule.Constant ∷ rule.Typing ∷ rule.Index ∷ rule.Term ∷ rule.Order ∷ rule.Head ∷ rule.Block ∷ rule.Clause ∷ rule.Key ∷ []) a.1 in
    let c = one_more test rule.Set (rule.Constant ∷ rule.Typing ∷ rule.Index ∷ rule.Term ∷ rule.Order ∷ rule.Head ∷ rule.Block ∷ rule.Clause ∷ rule.Key ∷ []) b.1 in
    let d = one_more test rule.Constant (rule.Typing ∷ rule.Index ∷ rule.Term ∷ rule.Order ∷ rule.Head ∷ rule.Block ∷ rule.Clause ∷ rule.Key ∷ []) c.1 in
    (one_more test rule.Typing (rule.Index ∷ rule.Term ∷ rule.Order ∷ rule.Head ∷ rule.Block ∷ rule.Clause ∷ rule.Key ∷ []) d.1).0

either_kept : (a b c d : Bool) → (a ≡ false → c ≡ false) → (b ≡ false → d ≡ false) → (a || b) ≡ false → (c || d) ≡ false
either_kept a b c d left right e = λ j. left (or_false_left a b e) j || right (or_false_right a b e) j

pub unless_done : (o : Option Rule) (at : ℕ) (ran : Ran) (t : State) → unless_broken o at ran ≡ Done t → (o ≡ None) × (ran ≡ Done t)
unless_done None at ran t e = (refl, e)
unless_done (Some r) at ran t e = absurd (let z : Broken at r ≡ Done t = e in cc)

-- what a record starts with
started_moved : {A B : Type 0} (h : A → B) (xs : List A) (k : ℕ) → started (map h xs) k ≡ map (option_map h) (started xs k)
started_moved h [] zero = refl
started_moved h [] (suc k) = ap (λ l. None ∷ l) (started_moved h [] k)
started_moved h (x ∷ xs) k = ap (λ l. Some (h x) ∷ l) (started_moved h xs k)

module _ (f g : ℕ → ℕ) (n : ℕ) (keeps : KeepsStandard f g) (old new : Home) (along : IsMovedHome (moving f g n) n old new) where
  abbrev m : Map
  m = moving f g n

  abbrev at_rest : State → State
  at_rest s = moved_state m n s

  by_kept : (s : State) (is js : List Instr) → AllMoved m n is js → (i j : Instr) → IsMoved m n i j → (r : Rule) → broken_by old s is i r ≡ false → broken_by new (at_rest s) js j r ≡ false
  by_kept s is js a i j x rule.Register e = register_kept f g n keeps old new along s i j x ∙ e
  by_kept s is js a i j x rule.Unset e = unset_kept f g n keeps old new along s i j x ∙ e
  by_kept s is js a i j x rule.Set e = set_kept f g n keeps old new along s i j x ∙ e
  by_kept s is js a i j x rule.Constant e = constant_kept f g n keeps old new along s i j x ∙ e
  by_kept s is js a i j x rule.Typing e = type_rule_kept f g n keeps old new along s i j x e
  by_kept s is js a i j x rule.Index e = index_kept f g n keeps old new along s i j x ∙ e
  by_kept s is js a i j x rule.Term e = term_kept f g n keeps old new along s i j x ∙ e
  by_kept s is js a i j x rule.Order e = order_kept f g n keeps old new along s i j x ∙ e
  by_kept s is js a i j x rule.Head e = head_kept f g n keeps old new along s i j x e
  by_kept s is js a i j x rule.Block e = block_kept f g n keeps old new along s is js a i j x ∙ e
  by_kept s is js a i j x rule.Clause e = clause_kept f g n keeps old new along s i j x e
  by_kept s is js a i j x rule.Key e = refl

  end_kept : (s : State) → broken_of rules old s [] ≡ None → broken_of rules new (at_rest s) [] ≡ None
  end_kept s e = by (nat_eq s.place 0) e
    where
      by : (b : Bool) → (if b then first_broken (broken_by_record old s) rules else None) ≡ None → (if b then first_broken (broken_by_record new (at_rest s)) rules else None) ≡ None
      by true e = first_kept (broken_by_record old s) (broken_by_record new (at_rest s)) (whole_kept f g n keeps old new along s) rules e
      by false e = refl

  abbrev both : Home → State → List Instr → Instr → Rule → Bool
  both h s is i r = broken_by_record h s r || broken_by h s is i r

  step_kept : (s : State) (is js : List Instr) → AllMoved m n is js → (i j : Instr) → IsMoved m n i j → broken_of rules old s (i ∷ is) ≡ None → broken_of rules new (at_rest s) (j ∷ js) ≡ None
  step_kept s is js a i j x e = by (nat_eq s.place 0) e
    where
      by : (b : Bool) → (if b then first_broken (both old s is i) rules else first_broken (broken_by old s is i) rules) ≡ None
          → (if b then first_broken (both new (at_rest s) js j) rules else first_broken (broken_by new (at_rest s) js j) rules) ≡ None
      by true e =
          first_kept (both old s is i) (both new (at_rest s) js j)
          (λ r. either_kept (broken_by_record old s r) (broken_by old s is i r) (broken_by_record new (at_rest s) r)
          (broken_by new (at_rest s) js j r) (whole_kept f g n keeps old new along s r) (by_kept s is js a i j x r)) rules e
      by false e = first_kept (broken_by old s is i) (broken_by new (at_rest s) js j) (by_kept s is js a i j x) rules e

  types_right : (s : State) (is : List Instr) (i : Instr) → broken_of rules old s (i ∷ is) ≡ None → breaks_type old s i ≡ false
  types_right s is i e = by (nat_eq s.place 0) e
    where
      by : (b : Bool) → (if b then first_broken (both old s is i) rules else first_broken (broken_by old s is i) rules) ≡ None → breaks_type old s i ≡ false
      by true e = typing_kept (both old s is i) e
      by false e = typing_kept (broken_by old s is i) e

  abbrev moved_ran : Ran → Ran
  moved_ran (Done t) = Done (at_rest t)
  moved_ran (Broken at r) = Broken at r
  moved_ran Void = Void

  module _ (later later_now : Later) (go : IsMovedLater f g n keeps later later_now) where
    pub run_moved : (is js : List Instr) → AllMoved m n is js → (s t : State) → run old later s is ≡ Done t → run new later_now (at_rest s) js ≡ Done (at_rest t)
    run_moved [] [] a s t e =
        let done = unless_done (broken_of rules old s []) s.place (Done s) t e in
        ap (λ o. unless_broken o s.place (Done (at_rest s))) (end_kept s done.0) ∙ ap moved_ran done.1
    run_moved (i ∷ is) (j ∷ js) (x, a) s t e =
        let done = unless_done (broken_of rules old s (i ∷ is)) s.place (run_on (λ u. run old later u is) (after old later s i)) t e in
        ap (λ o. unless_broken o s.place (run_on (λ u. run new later_now u js) (after new later_now (at_rest s) j))) (step_kept s is js a i j x done.0)
        ∙ by (λ u. run_moved is js a u t) (after old later s i) refl done.1
      where
        right : broken_of rules old s (i ∷ is) ≡ None
        right = (unless_done (broken_of rules old s (i ∷ is)) s.place (run_on (λ u. run old later u is) (after old later s i)) t e).0

        by : ((u : State) → run old later u is ≡ Done t → run new later_now (at_rest u) js ≡ Done (at_rest t)) → (o : Option State) → after old later
            s i ≡ o → run_on (λ u. run old later u is) o ≡ Done t → run_on (λ u. run new later_now u js) (after new later_now (at_rest s) j) ≡ Done
            (at_rest t)
        by more None h e = absurd (let z : Void ≡ Done t = e in cc)
        by more (Some u) h e =
            ap (run_on (λ u. run new later_now u js)) (after_moved f g n keeps old new along s later later_now go i j u x (types_right s is i right) h)
            ∙ more u e
    run_moved [] (j ∷ js) a s t e = absurd a
    run_moved (i ∷ is) [] a s t e = absurd a

    abbrev self : IsMovedRecord m n old.self new.self
    self = along.self

    start_moved : (c : Captured) → first_state new.self (moved_captured m c) ≡ at_rest (first_state old.self c)
    start_moved c =
        λ j. record {
          place = 0;
          now = record {
            types = (ap (started (map (mapped_type m) c.types)) self.types ∙ started_moved (mapped_type m) c.types old.self.types) j;
            terms = (ap (started (map (moved_built m) c.terms)) self.registers ∙ started_moved (moved_built m) c.terms old.self.registers) j;
          };
          types_set = from_zero (self.captured_types j);
          terms_set = from_zero (self.captured j);
          in_body = false;
          head_types = [];
          head_arguments = [];
          goals = Rattle.lp_model.specs.Flat.no_goals;
          frames = [];
          assumed = [];
        }

    -- its clause
    types_moved : (s : State) (rs : List ℕ) → variable_types (at_rest s) rs ≡ map (mapped_type m) (variable_types s rs)
    types_moved s [] = refl
    types_moved s (r ∷ rs) = λ j. (term_same f g n keeps old new along s r j).type ∷ types_moved s rs j

    head_term_moved : (s : State) → head_term new (at_rest s) ≡ mapped m (head_term old s)
    head_term_moved s =
        (λ j. apply (head_moved f g n keeps old new along s j).term (plain_moved f g n (keeps.kinds 0 refl) s.head_arguments j))
        ∙ sym (apply_moved m (head_built old s).term (plain_terms s.head_arguments))

    clause_moved : (s : State) → clause_of new (at_rest s) ≡ moved_clause f g n keeps (clause_of old s)
    clause_moved s =
        let rs = own_variables old.self in
        let same = own_variables_same m n old.self new.self self in
        let deep : _ = no_deeper (variable_types s rs) 0 in
        λ j. clause (if self.program j then length (own_types_same m n old.self new.self self j) else 0)
        ((ap (variable_types (at_rest s)) same ∙ types_moved s rs) j)
        (((λ z. bind_term (same z) (along.number z) 0 (head_term_moved s z)) ∙ sym (bind_moved f g n rs old.number 0 (head_term old s))) j)
        (((λ z. written_goals (bind_goals (same z) (along.number z) (moved_goals m 0 s.goals)))
        ∙ ap written_goals (sym (goals_bound f g n rs old.number 0 0 s.goals)) ∙ goals_written f g n 0 (bind_goals rs old.number s.goals)
        ∙ ap (λ d. moved_goals m d (written_goals (bind_goals rs old.number s.goals))) (sym deep)) j)

    pub denoted_moved : (c : Captured) (d : Clause) → denoted old later c ≡ Some d → denoted new later_now (moved_captured m c) ≡ Some (moved_clause f g n keeps d)
    denoted_moved c d e = by (run old later (first_state old.self c) old.self.code.items) refl e
      where
        by : (o : Ran) → run old later (first_state old.self c) old.self.code.items ≡ o → clause_ran old o ≡ Some d → denoted new later_now (moved_captured m c) ≡ Some (moved_clause f g n keeps d)
        by (Done t) h e =
            ap (clause_ran new) (ap (λ s. run new later_now s new.self.code.items) (start_moved c) ∙ run_moved old.self.code.items new.self.code.items self.code (first_state old.self c) t h)
            ∙ ap Some (clause_moved t) ∙ ap (option_map (moved_clause f g n keeps)) e
        by (Broken at r) h e = absurd (let z : None ≡ Some d = e in cc)
        by Void h e = absurd (let z : None ≡ Some d = e in cc)
