-- Variables that are made behind the head, and NECK.
use Rattle.std.proofs.Common.{◌≡◌, ◌∙◌, ◌≤◌, ◌<◌, ℕ, ◌+◌, List, [], ◌∷◌, ◌++◌, append_assoc, true, false, Some, None, ap, refl, sym, subst, arith, true≢false}
use Rattle.std.specs.Prelude.{sum_by, slice_set, unwrap_or}
use Rattle.std.proofs.lemmas.Bool.{eqb-true}
use Rattle.std.proofs.lemmas.List.{append-nil}
use Rattle.lp_lemmas.proofs.Lists.{append_nil_sym}
use Rattle.lp_calculus.specs.Typing.{o_type}
use Rattle.lp_code.specs.declared.instruction.Instr.{Instr}
use Rattle.lp_code.specs.declared.instruction.Instr.TheVariants.{New, Neck}
use Rattle.lp_code.specs.declared.rule.Rule.{Rule}
use Rattle.lp_code.specs.declared.rule.Rule.TheVariants as rule
use Rattle.lp_code.specs.Length.{length_of}
use Rattle.lp_code.specs.Symbolic.{Built, variable, held, whole}
use Rattle.lp_code.specs.States.{State, Home, member, depth}
use Rattle.lp_code.specs.Steps.{put_term, passed}
use Rattle.lp_code.specs.Rules.{breaks_head}
use Rattle.lp_code.specs.Denote.{broken_by}
use Rattle.lp_gen.specs.declared.emitter.Emitter.{Emitter}
use Rattle.lp_gen.specs.inner.Running.{TermsStand, HasRoom, IsTypePut}
use Rattle.lp_gen.specs.Steps.{Seen, Around, at_level, set_level}
use Rattle.lp_gen.specs.inner.TermSteps.{made_variable}
use Rattle.lp_gen.specs.inner.TermLaw.{Standing}
use Rattle.lp_gen.specs.inner.Written.{Goes}
use Rattle.lp_gen.specs.inner.Beginning.{VariableMade, VariablesMade, behind_head, NeckPut}
use Rattle.lp_gen.proofs.OwnSet.{makes_both}
use Rattle.lp_gen.proofs.CodeOwned.{none_owned, owns_then, one_owned}
use Rattle.lp_gen.proofs.StepsOwn.{no_types_more}
use Rattle.lp_gen.proofs.Denoting.{steps, settled_same, room_less, room_front, room_behind}
use Rattle.lp_gen.proofs.Registers.{held_elsewhere}
use Rattle.lp_gen.proofs.TermPut.{put_at, no_sides}
use Rattle.lp_gen.proofs.VariablePut.{new_fine}
use Rattle.lp_gen.proofs.AroundSet.{around_same, around_then, around_set, standing_set}
use Rattle.lp_gen.proofs.TermWritten.{standing_on, then_goes, room_goes}
use Rattle.lp_gen.proofs.AtomWritten.{leads_goes}

no_some : (b : Built) → Some b ≡ None → ⊥
no_some b e = cc

pub variable_made : (old kind new : Emitter) (a : Around) (l : ℕ) (v : Seen) (t : ℕ) → IsTypePut old kind t v.of → new.code.items ≡ kind.code.items ++ New v.register t ∷ [] → new.types ≡ kind.types →
    new.registers ≡ kind.registers → VariableMade old new a l v
variable_made old kind new a l v t q code same_types same_registers = record {
  more = q.more ++ New v.register t ∷ [];
  code_is = code ∙ ap (λ l. l ++ New v.register t ∷ []) q.code_is ∙ append_assoc old.code.items q.more (New v.register t ∷ []);
  types_grow = let i = q.types_grow in omega (arith, i, same_types);
  registers_stay = same_registers ∙ q.registers_stay;
  own = makes_both q.more (New v.register t ∷ []) ∙ ap (λ l. l ++ v.register ∷ []) q.plain.no_own;
  no_types = no_types_more q.more (New v.register t ∷ []) q.plain.no_types refl;
  denotes = λ h later vars s σ st te low few stands found unset room.
      let r = v.register in
      let one = New r t ∷ [] in
      let b = whole (variable r h.number) v.of in
      let unmade = stands.unmade l v found unset in
      let below = stands.low l v found in
      let w = q.denotes h later vars s st (omega (arith, low, same_types)) (stands.known l v found) (room_front s (q.more ++ one) q.more one refl room) in
      let first = leads_goes h later vars old.types kind.types old.registers s w.0 q.more w.1 te in
      let same : w.0.now.terms ≡ s.now.terms = w.1.same.terms in
      let before : w.0.in_body ≡ false = w.1.same.in_body ∙ unmade.0 in
      let none : held w.0.now.terms r ≡ None = ap (λ xs. held xs r) same ∙ stands.unset l v found unset in
      let fresh : member r w.0.terms_set ≡ false = first.terms_stand.fresh before r none in
      let low_r : r < h.self.registers = omega (arith, below, few) in
      let size : sum_by length_of one ≡ 0 + length_of (New r t) = refl in
      let wide : HasRoom w.0 (w.0.place + length_of (New r t)) = room_less (w.0.place + length_of (New r t)) (w.0.place + sum_by length_of one) w.0.frames (omega (arith, size))
      (room_behind h later vars old.types kind.types s w.0 (q.more ++ one) q.more one w.1 refl room) in
      let here : HasRoom w.0 w.0.place = room_less w.0.place (w.0.place + length_of (New r t)) w.0.frames (omega arith) wide in
      let u = put_at h later vars kind.types old.registers old.registers w.0 (New r t) r b
      (ap (λ o. Some (put_term w.0 r (whole (variable r h.number) (unwrap_or o o_type)))) w.2) refl refl (omega arith)
      w.1.stands first.terms_stand (omega arith) below low_r wide (new_fine h vars kind.types w.0 r t v.of w.1.stands fresh before low_r w.2 here) in
      let second : Goes h later vars kind.types kind.types old.registers old.registers w.0 one u.0 = record {
        runs = u.1.runs;
        place_is = u.1.place_is;
        same = u.1.same;
        types_kept = u.1.types_kept;
        terms_keep = λ k d z e. u.1.terms_kept k z ∙ held_elsewhere w.0.now.terms r k (Some b) (λ y. no_some d (sym e ∙ ap (held w.0.now.terms) y ∙ none)) ∙ e;
        types_stand = u.1.types_stand;
        terms_stand = u.1.terms_stand;
      } in
      let all = then_goes h later vars old.types kind.types kind.types old.registers old.registers old.registers s w.0 u.0 q.more one first second q.types_grow (omega arith) in
      let many = u.1.terms_stand.as_many.enough in (
        u.0,
        subst (λ n. Goes h later vars old.types n old.registers old.registers s (q.more ++ one) u.0) (sym same_types) all,
        standing_on h vars old.registers old.registers s.in_body σ (set_level a l) (made_variable h r v.of s.now.terms) u.0.now.terms
            (standing_set h vars old.registers s.in_body σ a s.now.terms l v stands found unset) (λ k z. u.1.terms_kept k z ∙ ap (λ xs. held (slice_set xs r (Some b)) k) same) (omega arith)
            (omega (arith, many, few)),
      );
}

pub no_variables : (e : Emitter) (a : Around) → VariablesMade e e a a
no_variables e a = record {
  more = [];
  code_is = append_nil_sym e.code.items;
  types_grow = omega arith;
  registers_stay = refl;
  owns = λ start. none_owned a [] refl;
  no_types = refl;
  denotes = λ h later vars s σ st te low few stands room. (
    s,
    record {
      runs = λ rest. refl;
      place_is = let z : sum_by length_of [] ≡ 0 = refl in omega (arith, z);
      same = record { in_body = refl; head_types = refl; head_arguments = refl; goals = refl; frames = refl; assumed = refl };
      types_kept = λ r l. refl;
      terms_keep = λ r d l e. e;
      types_stand = st;
      terms_stand = te;
    },
    stands,
    around_same a,
  );
}

pub variable_then : (old mid new : Emitter) (a b : Around) (l : ℕ) (v : Seen) → VariablesMade old mid a b → VariableMade mid new b l v → at_level b l
    ≡ Some v → v.is_set ≡ false → VariablesMade old new a (set_level b l)
variable_then old mid new a b l v x p found unset = record {
  more = x.more ++ p.more;
  code_is = p.code_is ∙ ap (λ l. l ++ p.more) x.code_is ∙ append_assoc old.code.items x.more p.more;
  types_grow = let i = x.types_grow in let j = p.types_grow in omega (arith, i, j);
  registers_stay = p.registers_stay ∙ x.registers_stay;
  owns = owns_then a b (set_level b l) x.more p.more x.owns (λ start. one_owned b l v p.more p.own start found unset);
  no_types = no_types_more x.more p.more x.no_types p.no_types;
  denotes = λ h later vars s σ st te low few stands room.
      let j = p.types_grow in
      let stay = x.registers_stay in
      let w = x.denotes h later vars s σ st te (omega (arith, low, j)) few stands (room_front s (x.more ++ p.more) x.more p.more refl room) in
      let body = w.1.same.in_body in
      let te_w : TermsStand h mid.registers w.0 = subst (λ n. TermsStand h n w.0) (sym stay) w.1.terms_stand in
      let here : Standing h vars mid.registers w.0.in_body σ b w.0.now.terms =
      subst (λ n. Standing h vars n w.0.in_body σ b w.0.now.terms) (sym stay) (subst (λ z. Standing h vars old.registers z σ b w.0.now.terms) (sym body) w.2) in
      let y = p.denotes h later vars w.0 σ w.1.types_stand te_w low (omega (arith, few, stay)) here found unset
      (room_goes h later vars old.types mid.types old.registers old.registers s w.0 (x.more ++ p.more) x.more p.more w.1 refl room) in (
        y.0,
        then_goes h later vars old.types mid.types new.types old.registers old.registers old.registers s w.0 y.0 x.more p.more w.1
            (subst (λ n. Goes h later vars mid.types new.types n n w.0 p.more y.0)
            stay y.1) x.types_grow (omega arith),
        subst (λ n. Standing h vars n s.in_body σ (set_level b l) y.0.now.terms) stay (subst (λ z. Standing h vars mid.registers z σ (set_level b l) y.0.now.terms) body y.2),
        around_then a b (set_level b l) w.3 (around_set b l (here.unmade l v found unset).2),
      );
}

-- NECK

neck_rules : (h : Home) (s : State) → s.in_body ≡ false → breaks_head h s Neck ≡ false → HasRoom s s.place → (rest : List Instr) (r : Rule) → broken_by h s rest Neck r ≡ false
neck_rules h s before fine room rest rule.Register = refl
neck_rules h s before fine room rest rule.Unset = refl
neck_rules h s before fine room rest rule.Set = refl
neck_rules h s before fine room rest rule.Constant = refl
neck_rules h s before fine room rest rule.Typing = refl
neck_rules h s before fine room rest rule.Index = refl
neck_rules h s before fine room rest rule.Term = refl
neck_rules h s before fine room rest rule.Order = before
neck_rules h s before fine room rest rule.Head = fine
neck_rules h s before fine room rest rule.Block = no_sides s room
neck_rules h s before fine room rest rule.Clause = refl
neck_rules h s before fine room rest rule.Key = refl

pub neck_put : (old new : Emitter) → new.code.items ≡ old.code.items ++ Neck ∷ [] → new.types ≡ old.types → new.registers ≡ old.registers → NeckPut old new
neck_put old new code same_types same_registers = record {
  more = Neck ∷ [];
  code_is = code;
  types_stay = same_types;
  registers_stay = same_registers;
  is_neck = refl;
  bytes = refl;
  plain = record { no_own = refl; no_types = refl };
  denotes = λ h later vars s st te before fine room.
      let here : HasRoom s s.place = room_less s.place (s.place + 1) s.frames (omega arith) room in
      let nothing : s.types_set ++ [] ≡ s.types_set = append-nil s.types_set in
      let none : s.terms_set ++ [] ≡ s.terms_set = append-nil s.terms_set in (
        λ rest. steps h later s (behind_head s) Neck rest st.sound (neck_rules h s before fine here rest)
            (ap (λ (u : State). Some u) (settled_same h.number (depth s.frames) (passed Neck (record s { in_body = true })) room
            ∙ (λ i. record {
              place = s.place + 1;
              now = s.now;
              types_set = nothing i;
              terms_set = none i;
              in_body = true;
              head_types = s.head_types;
              head_arguments = s.head_arguments;
              goals = s.goals;
              frames = s.frames;
              assumed = s.assumed;
            }))),
        record {
          few = st.few;
          own = subst (λ n. vars ≤ n) (sym same_types) st.own;
          as_many = st.as_many;
          stand = st.stand;
          unset = λ r q. st.unset r (omega (arith, q, same_types));
          sound = λ e r. let q = eqb-true (s.place + 1) 0 e in absurd (omega (arith, q));
        },
        record { as_many = te.as_many; unset = λ r q. te.unset r (omega (arith, q, same_registers)); fresh = λ e r q. absurd (true≢false e) },
      );
}
