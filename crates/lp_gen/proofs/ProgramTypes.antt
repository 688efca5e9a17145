-- The type variables of a clause of a program: its code makes them first.
use Rattle.std.proofs.Common.{◌≡◌, ◌∙◌, ◌≤◌, ◌<◌, ℕ, zero, suc, ◌+◌, ◌-◌, List, [], ◌++◌, length, Bool, true, false, ap, refl, sym, subst, arith, true≢false}
use Rattle.std.specs.Prelude.{nat_eq, nat_lt, ◌||◌}
use Rattle.std.proofs.lemmas.Bool.{eq-eqb, eqb-true, ltb-true, ltb-false}
use Rattle.lp_code.specs.declared.instruction.Instr.{Instr}
use Rattle.lp_code.specs.declared.rule.Rule.{Rule}
use Rattle.lp_code.specs.States.{State, Home, member}
use Rattle.lp_code.specs.Steps.{Later, is_own_type, own_types}
use Rattle.lp_code.specs.Denote.{run, started, broken_by_record}
use Rattle.lp_gen.specs.inner.Running.{TypesStand}
use Rattle.lp_gen.specs.inner.GoalCode.{numbers}
use Rattle.lp_gen.specs.inner.Entering.{news}
use Rattle.lp_gen.proofs.BodySteps.{numbers_length}
use Rattle.lp_gen.proofs.OwnPlaces.{passing_range}
use Rattle.lp_gen.proofs.RecordNames.{tynews, tynews_of, own_type_is}
use Rattle.lp_gen.proofs.TypesBegun.{types_begin}
use Rattle.lp_gen.proofs.ClauseDenoted.{no_types}

or_right : (c d : Bool) → d ≡ true → (c || d) ≡ true
or_right true d e = refl
or_right false d e = e

pub in_numbers : (q n i : ℕ) → q ≤ i → i < q + n → member i (numbers q n) ≡ true
in_numbers q zero i le l = absurd (omega (arith, le, l))
in_numbers q (suc n) i le l = go (nat_eq i q) refl (λ lt. in_numbers (suc q) n i lt (omega (arith, l)))
  where
    go : (t : Bool) → nat_eq i q ≡ t → (suc q ≤ i → member i (numbers (suc q) n) ≡ true) → member i (numbers q (suc n)) ≡ true
    go true e rest = ap (λ t. t || member i (numbers (suc q) n)) e
    go false e rest = or_right (nat_eq i q) (member i (numbers (suc q) n)) (rest (let z = differs e in omega (arith, z, le)))
      where
        differs : nat_eq i q ≡ false → q < i
        differs f = by (nat_lt q i) refl
          where
            by : (t : Bool) → nat_lt q i ≡ t → q < i
            by true g = ltb-true q i g
            by false g = let z = ltb-false q i g in absurd (true≢false (sym (eq-eqb i q (let y : i ≡ q = omega (arith, z, le) in y)) ∙ f))

pub not_in_numbers : (q n i : ℕ) → (i < q → ⊥) → q + n ≤ i → member i (numbers q n) ≡ false
not_in_numbers q zero i low le = refl
not_in_numbers q (suc n) i low le = Rattle.lp_gen.proofs.Denoting.or_none (nat_eq i q) (member i (numbers (suc q) n))
    (Rattle.std.proofs.lemmas.Bool.ne_eqb i q (λ z. absurd (omega (arith, z, le))))
    (not_in_numbers (suc q) n i (λ z. absurd (omega (arith, z, le))) (omega (arith, le)))

module _ (h : Home) (v : ℕ) (rest : List Instr) (code : h.self.code.items ≡ news 0 v ++ rest) (none : tynews rest ≡ []) (low : v ≤ h.self.types) where
  own_is : (i : ℕ) → is_own_type h.self i ≡ member i (numbers 0 v)
  own_is i = own_type_is h.self i ∙ ap (member i) (ap tynews code ∙ tynews_of v rest none)

  pub own_there : (i : ℕ) → i < 0 + v → is_own_type h.self i ≡ true
  own_there i l = own_is i ∙ in_numbers 0 v i (omega arith) l

  pub own_count : length (own_types h.self) ≡ v
  own_count =
      ap length (passing_range (h.self.types - v) 0 v h.self.types (is_own_type h.self) (omega (arith, low)) (λ r l. absurd (omega (arith, l))) (λ r le l. own_there r l)
      (λ r le. own_is r ∙ not_in_numbers 0 v r (λ z. absurd (omega (arith, z))) le)) ∙ numbers_length 0 v

  -- from a state before all, in which no type stands
  pub record Typed (later : Later) (s : State) : Type 0 where
    pub state : State
    pub runs : (more : List Instr) → run h later s (news 0 v ++ more) ≡ run h later state more
    pub stand : TypesStand h v v state
    pub terms : state.now.terms ≡ s.now.terms
    pub terms_set : state.terms_set ≡ s.terms_set
    pub in_body : state.in_body ≡ s.in_body
    pub head_types : state.head_types ≡ s.head_types
    pub arguments : state.head_arguments ≡ s.head_arguments
    pub goals : state.goals ≡ s.goals
    pub frames : state.frames ≡ s.frames
    pub assumed : state.assumed ≡ s.assumed
    pub place_grows : s.place ≤ state.place

  pub typed : (later : Later) (s : State) → s.now.types ≡ started [] h.self.types → s.types_set ≡ [] → s.in_body ≡ false → s.frames ≡ [] → h.self.program ≡ true → v ≤ 65535 →
      (nat_eq s.place 0 ≡ true → (r : Rule) → broken_by_record h s r ≡ false) → Typed later s
  typed later s now_is set_is before closed program few sound =
      let w = types_begin h later v 0 s (no_types h s now_is set_is sound) (omega (arith, low)) (omega (arith, few)) before program closed own_there in
      let z : 0 + v ≡ v = omega arith in
      record {
        state = w.0;
        runs = w.1.runs;
        stand = subst (λ n. TypesStand h n n w.0) z w.2;
        terms = w.1.same.terms;
        terms_set = w.1.same.terms_set;
        in_body = w.1.same.in_body;
        head_types = w.1.same.head_types;
        arguments = w.1.same.head_arguments;
        goals = w.1.same.goals;
        frames = w.1.same.frames;
        assumed = w.1.same.assumed;
        place_grows = let p = w.1.place_is in omega (arith, p);
      }
