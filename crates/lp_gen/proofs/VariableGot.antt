-- A variable of the clause at its first place, where that is an argument of the head.
use Rattle.std.proofs.Common.{◌≡◌, ◌∙◌, ◌<◌, ℕ, ◌+◌, List, [], ◌∷◌, ◌++◌, length, false, Some, None, ap, refl, sym, arith}
use Rattle.std.specs.Prelude.{is_none, sum_by, unwrap_or, option_map}
use Rattle.std.proofs.lemmas.Bool.{eqb-true}
use Rattle.std.proofs.lemmas.List.{append-nil}
use Rattle.lp_calculus.specs.Types.{Ty}
use Rattle.lp_calculus.specs.Typing.{o_type}
use Rattle.lp_code.specs.declared.instruction.Instr.{Instr}
use Rattle.lp_code.specs.declared.instruction.Instr.TheVariants.{GetVar}
use Rattle.lp_code.specs.declared.rule.Rule.{Rule}
use Rattle.lp_code.specs.declared.rule.Rule.TheVariants as rule
use Rattle.lp_code.specs.Length.{length_of}
use Rattle.lp_code.specs.Symbolic.{Built, variable, held, whole, argument_type}
use Rattle.lp_code.specs.States.{State, Home, member, depth}
use Rattle.lp_code.specs.Steps.{head_built, argument_at, put_term, with_argument, settled, passed}
use Rattle.lp_code.specs.Rules.{out_of_turn}
use Rattle.lp_code.specs.Denote.{broken_by}
use Rattle.lp_gen.specs.declared.emitter.Emitter.{Emitter}
use Rattle.lp_gen.specs.inner.Running.{HasRoom}
use Rattle.lp_gen.specs.inner.Heading.{VariableGot}
use Rattle.lp_gen.proofs.Denoting.{or_none, steps, settled_same, room_less, many_set, many_within, member_more}
use Rattle.lp_gen.proofs.Registers.{held_elsewhere, fresh_set}
use Rattle.lp_gen.proofs.TermPut.{one_within, no_sides}

got_fine : (h : Home) (s : State) (i d : ℕ) (T : Ty) → member d s.terms_set ≡ false → out_of_turn s i ≡ false → argument_type (head_built h s).type i
    ≡ Some T → d < h.self.registers → HasRoom s s.place →
    (rest : List Instr) (r : Rule) → broken_by h s rest (GetVar i d) r ≡ false
got_fine h s i d T unset turn typed low room rest rule.Register = one_within h.self.registers d low
got_fine h s i d T unset turn typed low room rest rule.Unset = refl
got_fine h s i d T unset turn typed low room rest rule.Set = or_none (member d s.terms_set) false unset refl
got_fine h s i d T unset turn typed low room rest rule.Constant = refl
got_fine h s i d T unset turn typed low room rest rule.Typing = ap is_none typed
got_fine h s i d T unset turn typed low room rest rule.Index = refl
got_fine h s i d T unset turn typed low room rest rule.Term = refl
got_fine h s i d T unset turn typed low room rest rule.Order = turn
got_fine h s i d T unset turn typed low room rest rule.Head = refl
got_fine h s i d T unset turn typed low room rest rule.Block = no_sides s room
got_fine h s i d T unset turn typed low room rest rule.Clause = refl
got_fine h s i d T unset turn typed low room rest rule.Key = refl

no_some : (b : Built) → Some b ≡ None → ⊥
no_some b e = cc

pub variable_got : (old new : Emitter) (i d : ℕ) → new.code.items ≡ old.code.items ++ GetVar i d ∷ [] → new.types ≡ old.types → new.registers ≡ old.registers → VariableGot old new i d
variable_got old new i d code same_types same_registers = record {
  more = GetVar i d ∷ [];
  code_is = code;
  types_stay = same_types;
  registers_stay = same_registers;
  own = refl;
  no_types = refl;
  denotes = λ h later vars s T st te below few before none turn typed room.
      let one : sum_by length_of (GetVar i d ∷ []) ≡ 0 + length_of (GetVar i d) = refl in
      let wide : HasRoom s (s.place + length_of (GetVar i d)) = room_less (s.place + length_of (GetVar i d)) (s.place + sum_by length_of (GetVar i d ∷ [])) s.frames (omega (arith, one)) room in
      let here : HasRoom s s.place = room_less s.place (s.place + length_of (GetVar i d)) s.frames (omega arith) wide in
      let low : d < h.self.registers = omega (arith, below, few) in
      let unset = te.fresh before d none in
      let of : argument_at h s i ≡ T = ap (λ o. unwrap_or o o_type) typed in
      let b = whole (variable d h.number) T in
      let t = passed (GetVar i d) (with_argument (put_term s d b) b) in
      let within : d < length s.now.terms = many_within s.now.terms h.self.registers d te.as_many low in (
        t,
        record {
          runs = λ rest. steps h later s t (GetVar i d) rest st.sound (got_fine h s i d T unset turn typed low here rest)
              (ap (λ U. option_map (λ (u : State). settled h.number (depth u.frames) (passed (GetVar i d) u)) (Some (with_argument (put_term s d (whole (variable d h.number) U))
              (whole (variable d h.number) U)))) of ∙ ap (λ (u : State). Some u) (settled_same h.number (depth s.frames) t wide));
          place_is = omega (arith, one);
          goals_are = refl;
          head_types_are = refl;
          arguments_are = refl;
          in_body_stays = refl;
          frames_stay = refl;
          assumed_stay = refl;
          types_kept = λ r q. refl;
          terms_keep = λ r c q e. held_elsewhere s.now.terms d r (Some b) (λ z. no_some c (sym e ∙ ap (held s.now.terms) z ∙ none)) ∙ e;
          types_stand = record {
            few = st.few;
            own = st.own;
            as_many = st.as_many;
            stand = st.stand;
            unset = λ r q. ap (member r) (append-nil s.types_set) ∙ st.unset r q;
            sound = λ e r. let q = eqb-true (s.place + length_of (GetVar i d)) 0 e in absurd (omega (arith, q));
          };
          terms_stand = record {
            as_many = many_set s.now.terms h.self.registers d b te.as_many low;
            unset = λ r q. member_more r d s.terms_set (te.unset r q) (omega (arith, q, below));
            fresh = λ e r q. fresh_set s.now.terms s.terms_set d r b within (te.fresh e) q;
          };
        },
        refl,
      );
}
