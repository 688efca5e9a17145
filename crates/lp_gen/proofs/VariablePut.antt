-- A variable of the clause that is made among the steps of a term, before NECK.
use Rattle.std.proofs.Common.{◌≡◌, ◌∙◌, ◌<◌, ℕ, ◌+◌, List, [], ◌∷◌, ◌++◌, append_assoc, map, length, false, Option, Some, None, ap, refl, sym, subst, arith}
use Rattle.std.specs.Prelude.{All, nat_le, is_none, sum_by, slice_set, unwrap_or}
use Rattle.std.specs.List.{list_any}
use Rattle.std.proofs.lemmas.List.{length-set, append-nil}
use Rattle.std.proofs.lemmas.List.Elements.{All-head, All-tail}
use Rattle.lp_calculus.specs.Types.{Ty, no_types, types}
use Rattle.lp_calculus.specs.Typing.{o_type}
use Rattle.lp_term.specs.Nodes.{Nodes, type_tree}
use Rattle.lp_term.specs.declared.node.TypeId.{TypeId}
use Rattle.lp_code.specs.declared.instruction.Instr.{Instr}
use Rattle.lp_code.specs.declared.instruction.Instr.TheVariants.{New}
use Rattle.lp_code.specs.declared.rule.Rule.{Rule}
use Rattle.lp_code.specs.declared.rule.Rule.TheVariants as rule
use Rattle.lp_code.specs.Length.{length_of}
use Rattle.lp_code.specs.Symbolic.{Built, variable, held, whole}
use Rattle.lp_code.specs.States.{State, Home, member}
use Rattle.lp_code.specs.Steps.{put_term}
use Rattle.lp_code.specs.Denote.{broken_by}
use Rattle.lp_gen.specs.declared.emitter.Emitter.{Emitter}
use Rattle.lp_gen.specs.declared.term_steps.TermStep.{TermStep}
use Rattle.lp_gen.specs.declared.term_steps.TermStep.TheVariants as on
use Rattle.lp_gen.specs.Steps.{Step, make_constant, make_integer, make_text, make_index, make_variable, from_register, apply_last, abstract_last}
use Rattle.lp_gen.specs.inner.Listing.{plain_step}
use Rattle.lp_gen.specs.inner.Owned.{made_by}
use Rattle.lp_gen.specs.inner.Running.{TypesStand, HasRoom, Hold, Moves, IsTypePut}
use Rattle.lp_gen.specs.inner.TermSteps.{Stack, stack, made_variable, step_built, steps_built, StandIn, StepsPut}
use Rattle.lp_gen.proofs.Denoting.{or_none, room_less, room_front, none_unset, many_within, held_set}
use Rattle.lp_gen.proofs.Registers.{held_elsewhere, by_same}
use Rattle.lp_gen.proofs.TermPut.{moved, then_moves, put_at, types_within, one_within, no_sides}
use Rattle.lp_gen.proofs.OwnSet.{makes_both}
use Rattle.lp_gen.proofs.StepsOwn.{own_more, no_types_more}
use Rattle.lp_gen.proofs.StepPut.{built_more, fine_parts, room_on}

pub new_fine : (h : Home) (vars n : ℕ) (s : State) (d q : ℕ) (T : Ty) → TypesStand h vars n s → member d s.terms_set ≡ false → s.in_body ≡ false → d <
    h.self.registers → Hold s q T → HasRoom s s.place →
    (rest : List Instr) (r : Rule) → broken_by h s rest (New d q) r ≡ false
new_fine h vars n s d q T st unset unmade low a room rest rule.Register =
    or_none (list_any (λ t. nat_le h.self.types t) (q ∷ [])) (list_any (λ r. nat_le h.self.registers r) (d ∷ [])) (types_within s h.self.types (q ∷ []) (types T no_types) st.as_many
    (a, tt)) (one_within h.self.registers d low)
new_fine h vars n s d q T st unset unmade low a room rest rule.Unset = or_none (list_any (λ t. is_none (held s.now.types t)) (q ∷ [])) false (none_unset s (q ∷ []) (types T no_types) (a, tt)) refl
new_fine h vars n s d q T st unset unmade low a room rest rule.Set = or_none (member d s.terms_set) false unset refl
new_fine h vars n s d q T st unset unmade low a room rest rule.Constant = refl
new_fine h vars n s d q T st unset unmade low a room rest rule.Typing = refl
new_fine h vars n s d q T st unset unmade low a room rest rule.Index = refl
new_fine h vars n s d q T st unset unmade low a room rest rule.Term = refl
new_fine h vars n s d q T st unset unmade low a room rest rule.Order = unmade
new_fine h vars n s d q T st unset unmade low a room rest rule.Head = refl
new_fine h vars n s d q T st unset unmade low a room rest rule.Block = no_sides s room
new_fine h vars n s d q T st unset unmade low a room rest rule.Clause = refl
new_fine h vars n s d q T st unset unmade low a room rest rule.Key = refl

-- a step leaves as many registers
step_length : (h : Home) (o : Step) (z : Stack) → length (step_built h o z).registers ≡ length z.registers
step_length h (make_constant c Ts) z = refl
step_length h (make_integer i) z = refl
step_length h (make_text b) z = refl
step_length h (make_index i T) z = refl
step_length h (make_variable r T) z = length-set z.registers r (Some (whole (variable r h.number) T))
step_length h (from_register r) z = refl
step_length h (apply_last n) z = refl
step_length h (abstract_last T) z = refl

pub steps_length : (h : Home) (os : List Step) (z : Stack) → length (steps_built h os z).registers ≡ length z.registers
steps_length h [] z = refl
steps_length h (o ∷ os) z = steps_length h os (step_built h o z) ∙ step_length h o z

pub stand_past : (n : ℕ) (xs ys : List (Option Built)) (rs : List ℕ) (bs : List Built) →
    ((r : ℕ) (b : Built) → r < n → held xs r ≡ Some b → held ys r ≡ Some b) → All (λ r. r < n) rs → StandIn xs rs bs →
    StandIn ys rs bs
stand_past n xs ys [] [] k l a = tt
stand_past n xs ys [] (c ∷ bs) k l a = absurd a
stand_past n xs ys (q ∷ rs) [] k l a = absurd a
stand_past n xs ys (q ∷ rs) (c ∷ bs) k l a = (k q c (All-head (λ r. r < n) q rs l) a.0, stand_past n xs ys rs bs k (All-tail (λ r. r < n) q rs l) a.1)

no_some : (b : Built) → Some b ≡ None → ⊥
no_some b e = cc

-- the same register is set in lists that agree
set_agrees : (n r : ℕ) (b : Built) (xs ys : List (Option Built)) → ((k : ℕ) → k < n → held xs k ≡ held ys k) → r < length xs → r < length ys → (k : ℕ) → k < n →
    held (slice_set xs r (Some b)) k ≡ held (slice_set ys r (Some b)) k
set_agrees n r b xs ys same low few k l =
    by_same (held (slice_set xs r (Some b)) k ≡ held (slice_set ys r (Some b)) k) k r
    (λ e. ap (held (slice_set xs r (Some b))) e ∙ held_set xs r b low ∙ sym (held_set ys r b few) ∙ ap (held (slice_set ys r (Some b))) (sym e))
    (λ e. held_elsewhere xs r k (Some b) e ∙ same k l ∙ sym (held_elsewhere ys r k (Some b) e))

pub new_then : (b : Nodes) (old mid kind new : Emitter) (os : List TermStep) (made : List ℕ) (r t : ℕ) (of : TypeId) → StepsPut b old mid os made → IsTypePut mid kind t (type_tree b of.0) →
    new.code.items ≡ kind.code.items ++ New r t ∷ [] → new.types ≡ kind.types → new.registers ≡ kind.registers →
    StepsPut b old new (os ++ on.New r of ∷ []) made
new_then b old mid kind new os made r t of x q code same_types same_registers = record {
  more = (x.more ++ q.more) ++ New r t ∷ [];
  code_is = code ∙ ap (λ l. l ++ New r t ∷ []) (q.code_is ∙ ap (λ l. l ++ q.more) x.code_is ∙ append_assoc old.code.items x.more q.more)
      ∙ append_assoc old.code.items (x.more ++ q.more) (New r t ∷ []);
  types_grow = let i = x.types_grow in let j = q.types_grow in omega (arith, i, j, same_types);
  terms_grow = let i = x.terms_grow in let j = q.registers_stay in omega (arith, i, j, same_registers);
  own = own_more b os (on.New r of) (x.more ++ q.more) (New r t ∷ []) (makes_both x.more q.more ∙ (λ i. x.own i ++ q.plain.no_own i) ∙ append-nil (made_by (map (plain_step b) os))) refl;
  no_types = no_types_more (x.more ++ q.more) (New r t ∷ []) (no_types_more x.more q.more x.no_types q.plain.no_types) refl;
  denotes = λ h later vars s st te low few fine room.
      let T = type_tree b of.0 in
      let one = New r t ∷ [] in
      let front = x.more ++ q.more in
      let start = stack s.now.terms [] in
      let z = steps_built h (map (plain_step b) os) start in
      let new_var = whole (variable r h.number) T in
      let i = q.types_grow in
      let j = q.registers_stay in
      let grow = x.terms_grow in
      let parts = fine_parts b h vars old.registers s.in_body os (on.New r of) start fine in
      let below = parts.1.0 in
      let room_x : HasRoom s (s.place + sum_by length_of front) = room_front s (front ++ one) front one refl room in
      let w = x.denotes h later vars s st te (omega (arith, low, i, same_types)) (omega (arith, few, j, same_registers)) parts.0 (room_front s front x.more q.more refl room_x) in
      let v = q.denotes h later vars w.0 w.1.types_stand (omega (arith, low, same_types)) parts.1.3
      (room_on h later vars old.types mid.types old.registers mid.registers z.registers s w.0 front x.more q.more w.1 refl room_x) in
      let kinds = moved h later vars mid.types kind.types mid.registers w.0 v.0 q.more v.1 w.1.terms_stand in
      let both = then_moves h later vars old.types mid.types kind.types old.registers mid.registers mid.registers z.registers w.0.now.terms z.registers s w.0 v.0 x.more q.more w.1 kinds
      x.types_grow x.terms_grow w.1.terms_kept in
      let unmade : v.0.in_body ≡ false = both.same.in_body ∙ parts.1.1 in
      let none : held v.0.now.terms r ≡ None = both.terms_kept r below ∙ parts.1.2 in
      let unset : member r v.0.terms_set ≡ false = both.terms_stand.fresh unmade r none in
      let low_r : r < h.self.registers = omega (arith, below, few, grow, j, same_registers) in
      let all = room_on h later vars old.types kind.types old.registers mid.registers z.registers s v.0 (front ++ one) front one both refl room in
      let size : sum_by length_of one ≡ 0 + length_of (New r t) = refl in
      let wide : HasRoom v.0 (v.0.place + length_of (New r t)) = room_less (v.0.place + length_of (New r t)) (v.0.place + sum_by length_of one) v.0.frames (omega (arith, size)) all in
      let here : HasRoom v.0 v.0.place = room_less v.0.place (v.0.place + length_of (New r t)) v.0.frames (omega arith) wide in
      let u = put_at h later vars kind.types mid.registers mid.registers v.0 (New r t) r new_var
      (ap (λ o. Some (put_term v.0 r (whole (variable r h.number) (unwrap_or o o_type)))) v.2) refl refl (omega arith) v.1.stands both.terms_stand (omega arith)
      (omega (arith, below, grow)) low_r wide (new_fine h vars kind.types v.0 r t T v.1.stands unset unmade low_r v.2 here) in
      let many = steps_length h (map (plain_step b) os) start in
      let enough = te.as_many.enough in
      let last = then_moves h later vars old.types kind.types kind.types old.registers mid.registers mid.registers z.registers (slice_set v.0.now.terms r (Some new_var))
      (made_variable h r T z.registers) s v.0 u.0 front one both u.1 (omega (arith, i, x.types_grow)) x.terms_grow
      (set_agrees old.registers r new_var v.0.now.terms z.registers both.terms_kept
      (many_within v.0.now.terms h.self.registers r both.terms_stand.as_many low_r) (omega (arith, low_r, many, enough))) in
      let is = built_more b h os (on.New r of) start in
      let stands : StandIn u.0.now.terms made z.made = stand_past mid.registers w.0.now.terms u.0.now.terms made z.made (λ k c l e. u.1.terms_kept k l
      ∙ held_elsewhere v.0.now.terms r k (Some new_var) (λ same. no_some c (sym (kinds.terms_kept k l ∙ e) ∙ ap (held v.0.now.terms) same ∙ none))
      ∙ kinds.terms_kept k l ∙ e) w.3 w.2 in (
        u.0,
        subst (λ (y : Stack). Moves h later vars old.types new.types old.registers new.registers y.registers s (front ++ one) u.0) (sym is)
            (subst (λ m. Moves h later vars old.types m old.registers new.registers (made_variable h r T z.registers) s (front ++ one) u.0) (sym same_types)
            (subst (λ m. Moves h later vars old.types kind.types old.registers m (made_variable h r T z.registers) s (front ++ one) u.0) (sym (same_registers ∙ j)) last)),
        subst (λ (y : Stack). StandIn u.0.now.terms made y.made) (sym is) stands,
        subst (λ m. All (λ r. r < m) made) (sym (same_registers ∙ j)) w.3,
      );
}
