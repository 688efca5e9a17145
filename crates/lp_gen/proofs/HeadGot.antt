-- The code of the head: its types, and its arguments one after the other.
use Rattle.std.proofs.Common.{◌≡◌, ◌∙◌, ◌≤◌, ◌<◌, ℕ, suc, ◌+◌, List, [], ◌∷◌, ◌++◌, append_assoc, map, length, Bool, true, false, Option, Some, None, ap, refl, sym, subst, arith}
use Rattle.std.specs.Prelude.{nat_eq, nat_le, not, ◌&&◌, ◌||◌, is_none, is_some, sum_by, option_map, unwrap_or}
use Rattle.std.specs.List.{list_any}
use Rattle.std.proofs.lemmas.Bool.{eq-eqb, lt-leb}
use Rattle.std.proofs.lemmas.List.{map-append, length-append}
use Rattle.std.proofs.lemmas.List.Sums.{sum_by-append}
use Rattle.lp_lemmas.proofs.Lists.{append_nil_sym, length_push_suc}
use Rattle.lp_lemmas.proofs.Elements.{All_push_parts}
use Rattle.lp_calculus.specs.Types.{Ty, arrow}
use Rattle.lp_calculus.specs.Term.{Term}
use Rattle.lp_calculus.specs.Typing.{o_type}
use Rattle.lp_model.specs.Flat.{Goals}
use Rattle.lp_code.specs.declared.record.RecordHead.{RecordHead}
use Rattle.lp_code.specs.declared.record.RecordHead.TheVariants.{Const, Register}
use Rattle.lp_code.specs.declared.instruction.Instr.{Instr}
use Rattle.lp_code.specs.Length.{length_of}
use Rattle.lp_code.specs.Symbolic.{Built, Registers, variable, held, whole, argument_type, type_in}
use Rattle.lp_code.specs.States.{State, Home}
use Rattle.lp_code.specs.Steps.{Later, head_built}
use Rattle.lp_code.specs.Rules.{head_count, has_none, is_passed}
use Rattle.lp_gen.specs.declared.emitter.Emitter.{Emitter}
use Rattle.lp_gen.specs.Sources.{IsKnownType}
use Rattle.lp_gen.specs.Steps.{from_of, to_of, Seen, Around, at_level}
use Rattle.lp_gen.specs.inner.Running.{TypesStand, TermsStand, HasRoom, IsTypePut}
use Rattle.lp_gen.specs.inner.Saying.{TypeGot}
use Rattle.lp_gen.specs.inner.TermLaw.{SameSides, Asks, Standing, as_set, with_variables, SameAround}
use Rattle.lp_gen.specs.inner.Written.{IsWell, AreWell, left_by, wholes}
use Rattle.lp_gen.specs.inner.Doing.{Does}
use Rattle.lp_gen.specs.inner.Heading.{AreOwn, HaveStood, PredicateStands, ArgumentGot, ArgumentsGot, TypesGot}
use Rattle.lp_gen.proofs.OwnSet.{plain_both, plain_none}
use Rattle.lp_gen.proofs.CodeOwned.{none_owned, owns_then}
use Rattle.lp_gen.proofs.StepsOwn.{no_types_more}
use Rattle.lp_gen.proofs.Denoting.{or_none, strict_may, room_less, room_front}
use Rattle.lp_gen.proofs.TypeWorks.{map_length}
use Rattle.lp_gen.proofs.AroundSet.{around_same, around_then, all_seen, variables_same, seen_of}
use Rattle.lp_gen.proofs.TermWritten.{well_last, asks_left, wholes_last, left_more}
use Rattle.lp_gen.proofs.AtomWritten.{leads_goes, goes_does, turns_does, then_does, does_same}
use Rattle.lp_gen.proofs.ArgumentGot.{built_same}

pub room_does : (h : Home) (later : Later) (v n m k l : ℕ) (s t : State) (is xs ys : List Instr) (gs : Goals) (Ts : List Ty) (bs : List Built) → Does h later v n m k l s xs gs Ts bs t →
    is ≡ xs ++ ys → HasRoom s (s.place + sum_by length_of is) → HasRoom t (t.place + sum_by length_of ys)
room_does h later v n m k l s t is xs ys gs Ts bs x e room =
    subst (λ fs. list_any (is_passed (t.place + sum_by length_of ys)) fs ≡ false) (sym x.frames_stay)
    (room_less (t.place + sum_by length_of ys) (s.place + sum_by length_of is) s.frames (let p = ap
    (sum_by length_of) e in let q = sum_by-append length_of xs ys in let r = x.place_is in omega (arith, p, q, r)) room)

pub nothing_does : (h : Home) (later : Later) (vars n k : ℕ) (s : State) → TypesStand h vars n s → TermsStand h k s → Does h later vars n n k k s [] s.goals s.head_types s.head_arguments s
nothing_does h later vars n k s st te = record {
  runs = λ rest. refl;
  place_is = let z : sum_by length_of [] ≡ 0 = refl in omega (arith, z);
  goals_are = refl;
  head_types_are = refl;
  arguments_are = refl;
  in_body_stays = refl;
  frames_stay = refl;
  assumed_stay = refl;
  types_kept = λ r l. refl;
  terms_keep = λ r b l e. e;
  types_stand = st;
  terms_stand = te;
}

-- arguments

argument_last : (h : Home) (v : ℕ) (Γ : List Ty) (a : Around) (A : Ty) (ts : List Term) (M B R : Ty) → AreWell h v Γ a A ts M → M ≡ arrow B R → argument_type A (length ts) ≡ Some B
argument_last h v Γ a A [] M B R w e = ap (λ T. argument_type T 0) (w ∙ e)
argument_last h v Γ a A (t ∷ ts) M B R w e = ap (λ T. argument_type T (suc (length ts))) w.2 ∙ argument_last h v Γ a w.1 ts M B R w.4 e

pub wholes_length : (A : Ty) (us : List Term) → length (wholes A us) ≡ length us
wholes_length A [] = refl
wholes_length A (u ∷ us) = ap suc (wholes_length (to_of A) us)

own_same : (h : Home) (σ : ℕ → Term) (a b : Around) → SameAround a b → AreOwn h σ a → AreOwn h σ b
own_same h σ a b s x = record {
  own = λ l v e le.
      let w = seen_of (at_level a l) (as_set v) (sym (s.variables l) ∙ ap (option_map as_set) e) in
      x.own l w.0 w.1 (subst (λ n. n ≤ l) s.base le) ∙ ap (λ (y : Seen). variable y.register h.number) w.2;
  others = λ l r v e lt.
      let w = seen_of (at_level a l) (as_set v) (sym (s.variables l) ∙ ap (option_map as_set) e) in
      x.others l r w.0 w.1 (subst (λ n. l < n) s.base lt);
}

pub predicate_on : (n m : ℕ) (s t : State) (p : Option RecordHead) → n ≤ m → ((r : ℕ) (b : Built) → r < n → held s.now.terms r ≡ Some b → held t.now.terms r ≡ Some b) → PredicateStands p n s →
    PredicateStands p m t
predicate_on n m s t None le k q = tt
predicate_on n m s t (Some (Const c)) le k q = tt
predicate_on n m s t (Some (Register r)) le k q = let l = q.0 in (omega (arith, l, le), q.1, k r q.1 q.0 q.2)

pub no_head_arguments : (K : ℕ → List Ty → Ty) (e : Emitter) (a : Around) (F : Ty) → ArgumentsGot K e e a a F []
no_head_arguments K e a F = record {
  more = [];
  code_is = append_nil_sym e.code.items;
  types_grow = omega arith;
  terms_grow = omega arith;
  owns = λ start. none_owned a [] refl;
  no_types = refl;
  denotes = λ h later vars s σ Γ R std asked st te low few before none stands well asks predicate own stood room. (
    s,
    does_same h later vars e.types e.types e.types e.registers e.registers e.registers s s [] s.goals s.head_types s.head_arguments s.goals s.head_types [] refl refl refl refl none
        (nothing_does h later vars e.types e.registers s st te),
    stands,
    around_same a,
    stood,
  );
}

pub head_argument_then : (K : ℕ → List Ty → Ty) (old mid new : Emitter) (a b c : Around) (F G : Ty) (ts : List Term) (t : Term) → ArgumentsGot K old mid a b F ts →
    ArgumentGot K mid new b c (length ts) (from_of G) t → G ≡ left_by F (length ts) → ArgumentsGot K old new a c F (ts ++ t ∷ [])
head_argument_then K old mid new a b c F G ts t x p left = record {
  more = x.more ++ p.more;
  code_is = p.code_is ∙ ap (λ l. l ++ p.more) x.code_is ∙ append_assoc old.code.items x.more p.more;
  types_grow = let i = x.types_grow in let j = p.types_grow in omega (arith, i, j);
  terms_grow = let i = x.terms_grow in let j = p.terms_grow in omega (arith, i, j);
  owns = owns_then a b c x.more p.more x.owns p.owns;
  no_types = no_types_more x.more p.more x.no_types p.no_types;
  denotes = λ h later vars s σ Γ R std asked st te low few before none stands well asks predicate own stood room.
      let i = p.types_grow in
      let j = p.terms_grow in
      let A = (head_built h s).type in
      let f = with_variables σ a 0 in
      let parts = well_last h vars Γ a A ts t R well in
      let w = x.denotes h later vars s σ Γ parts.0 std asked st te (omega (arith, low, i)) (omega (arith, few, j)) before none stands parts.2 asks predicate own stood
      (room_front s (x.more ++ p.more) x.more p.more refl room) in
      let body = w.1.in_body_stays in
      let so_far = w.1.arguments_are in
      let here : Standing h vars mid.registers w.0.in_body σ b w.0.now.terms = subst (λ z. Standing h vars mid.registers z σ b w.0.now.terms) (sym body) w.2 in
      let good = parts.4 in
      let moved_well : IsWell h vars Γ b t parts.1 = record {
        typed = good.typed;
        normal = good.normal;
        known = good.known;
        positive = good.positive;
        of = good.of;
        indices = good.indices;
        seen = all_seen a b Γ 0 t w.3 good.seen;
      } in
      let sides : SameSides (from_of G) parts.1 = (subst (λ H. Asks H (arrow parts.1 R)) (sym left)
      (subst (Asks (left_by F (length ts))) parts.3 (asks_left h vars Γ a F A ts parts.0 parts.2 asks))).0 in
      let head = built_same h old.registers s w.0 h.self.head predicate w.1.head_types_are w.1.terms_keep in
      let typed : argument_type (head_built h w.0).type (length ts) ≡ Some parts.1 =
      ap (λ (d : Built). argument_type d.type (length ts)) head ∙ argument_last h vars Γ a A ts parts.0 parts.1 R parts.2 parts.3 in
      let v = p.denotes h later vars w.0 σ Γ parts.1 std asked w.1.types_stand w.1.terms_stand low few (body ∙ before)
      (ap length so_far ∙ wholes_length A (map f ts) ∙ map_length f ts) typed here moved_well sides
      (predicate_on old.registers mid.registers s w.0 h.self.head x.terms_grow w.1.terms_keep predicate) (own_same h σ a b w.3 own)
      (subst (HaveStood h b) (sym so_far) w.4) (room_does h later vars old.types mid.types old.registers mid.registers s w.0 (x.more ++ p.more) x.more p.more _ _ _ w.1 refl room) in
      let all : w.0.head_arguments ++ whole (with_variables σ b 0 t) parts.1 ∷ [] ≡ wholes A (map f (ts ++ t ∷ [])) =
      (λ k. so_far k ++ whole (variables_same σ a b 0 t w.3 k) parts.1 ∷ []) ∙ sym (wholes_last h vars Γ a f A ts t parts.0 parts.1 R parts.2 parts.3) in (
        v.0,
        does_same h later vars old.types new.types new.types old.registers new.registers new.registers s v.0 (x.more ++ p.more) w.0.goals w.0.head_types
            (w.0.head_arguments ++ whole (with_variables σ b 0 t) parts.1 ∷ []) s.goals s.head_types (wholes A (map f (ts ++ t ∷ []))) refl refl w.1.goals_are w.1.head_types_are all
            (then_does h later vars old.types mid.types new.types old.registers mid.registers new.registers s w.0 v.0 x.more p.more _ _ _ _ _ _ w.1 v.1 x.types_grow x.terms_grow),
        subst (λ z. Standing h vars new.registers z σ c v.0.now.terms) body v.2,
        around_then a b c w.3 v.3,
        subst (HaveStood h c) all v.4,
      );
}

pub next_head_argument : {X : Type 0} (f : X → Term) (K : ℕ → List Ty → Ty) (old mid new : Emitter) (a b c : Around) (i : ℕ) (F G H of : Ty) (xs : List X) (x : X) →
    ArgumentsGot K old mid a b F (map f xs) × (G ≡ left_by F (length xs)) → ArgumentGot K mid new b c i of (f x) → i ≡ length xs → of ≡ from_of G → H ≡ to_of G →
    ArgumentsGot K old new a c F (map f (xs ++ x ∷ [])) × (H ≡ left_by F (length (xs ++ x ∷ [])))
next_head_argument f K old mid new a b c i F G H of xs x w p at is left = (
  subst (ArgumentsGot K old new a c F) (sym (map-append f xs (x ∷ []))) (head_argument_then K old mid new a b c F G (map f xs) (f x) w.0
      (subst (λ n. ArgumentGot K mid new b c n (from_of G) (f x)) (at ∙ sym (map_length f xs)) (subst (λ T. ArgumentGot K mid new b c i T (f x)) is p))
      (w.1 ∙ ap (left_by F) (sym (map_length f xs)))),
  left ∙ ap to_of w.1 ∙ sym (left_more F (length xs)) ∙ ap (left_by F) (sym (length_push_suc xs x)),
)

-- types

pub no_head_types : (e : Emitter) → TypesGot e e []
no_head_types e = record {
  more = [];
  code_is = append_nil_sym e.code.items;
  registers_stay = refl;
  types_grow = omega arith;
  plain = plain_none;
  denotes = λ h later vars s std st te low before none nothing known count room. (
    s,
    does_same h later vars e.types e.types e.types e.registers e.registers e.registers s s [] s.goals s.head_types s.head_arguments s.goals [] [] refl refl refl none nothing
        (nothing_does h later vars e.types e.registers s st te),
    refl,
  );
}

not_asked : (e : Bool) (n i : ℕ) → (e ≡ true → i < n) → (e && nat_le n i) ≡ false
not_asked true n i f = lt-leb n i (f refl)
not_asked false n i f = refl

pub head_type_then : (old mid kind new : Emitter) (Ts : List Ty) (T : Ty) (i r : ℕ) → TypesGot old mid Ts → IsTypePut mid kind r T → TypeGot kind new
    i r → i ≡ length Ts → TypesGot old new (Ts ++ T ∷ [])
head_type_then old mid kind new Ts T i r x q p at = record {
  more = (x.more ++ q.more) ++ p.more;
  code_is = p.code_is ∙ ap (λ l. l ++ p.more) (q.code_is ∙ ap (λ l. l ++ q.more) x.code_is ∙ append_assoc old.code.items x.more q.more) ∙ append_assoc old.code.items (x.more ++ q.more) p.more;
  registers_stay = p.registers_stay ∙ q.registers_stay ∙ x.registers_stay;
  types_grow = let a = x.types_grow in let b = q.types_grow in let c = p.types_stay in omega (arith, a, b, c);
  plain = plain_both (x.more ++ q.more) p.more (plain_both x.more q.more x.plain q.plain) p.plain;
  denotes = λ h later vars s std st te low before none nothing known count room.
      let front = x.more ++ q.more in
      let size : length (Ts ++ T ∷ []) ≡ length Ts + 1 = length-append Ts (T ∷ []) in
      let parts = All_push_parts (IsKnownType h.tables.kinds vars) Ts T known in
      let grow = q.types_grow in
      let kinds = p.types_stay in
      let room_f : HasRoom s (s.place + sum_by length_of front) = room_front s (front ++ p.more) front p.more refl room in
      let w = x.denotes h later vars s std st te (omega (arith, low, grow, kinds)) before none nothing parts.0 (λ e. let c = count e in omega (arith, c, size))
      (room_front s front x.more q.more refl room_f) in
      let v = q.denotes h later vars w.0 w.1.types_stand (omega (arith, low, kinds)) parts.1
      (room_does h later vars old.types mid.types old.registers mid.registers s w.0 front x.more q.more _ _ _ w.1 refl room_f) in
      let first = leads_goes h later vars mid.types kind.types mid.registers w.0 v.0 q.more v.1 w.1.terms_stand in
      let both = then_does h later vars old.types mid.types kind.types old.registers mid.registers mid.registers s w.0 v.0 x.more q.more _ _ _ _ _ _ w.1
      (goes_does h later vars mid.types kind.types mid.registers mid.registers w.0 v.0 q.more first) x.types_grow (let z = x.registers_stay in omega (arith, z)) in
      let types_so_far : v.0.head_types ≡ Ts = both.head_types_are ∙ w.1.head_types_are in
      let none_so_far : v.0.head_arguments ≡ [] = both.arguments_are ∙ w.1.arguments_are in
      let turn : ((v.0.in_body || not (nat_eq i (length v.0.head_types))) || not (has_none v.0.head_arguments)) ≡ false =
      or_none (v.0.in_body || not (nat_eq i (length v.0.head_types))) (not (has_none v.0.head_arguments)) (or_none v.0.in_body (not (nat_eq i (length v.0.head_types)))
      (both.in_body_stays ∙ before) (ap not (eq-eqb i (length v.0.head_types) (at ∙ ap length (sym types_so_far))))) (ap (λ l. not (has_none l)) none_so_far) in
      let behind = room_does h later vars old.types kind.types old.registers mid.registers s v.0 (front ++ p.more) front p.more _ _ _ both refl room in
      let u = p.denotes h later vars v.0 std v.1.stands (subst (λ n. TermsStand h n v.0) (sym q.registers_stay) both.terms_stand) (record {
        in_turn = turn;
        asked = not_asked (is_some h.self.head) (head_count h) i (λ z. let c = count z in omega (arith, c, size, at));
        types_set = or_none (is_none (held v.0.now.types r)) false (ap is_none v.2) refl;
      }) (strict_may (v.0.place + sum_by length_of p.more) v.0.frames behind) in
      let type_is : type_in v.0.now r ≡ T = ap (λ o. unwrap_or o o_type) v.2 in
      let last = then_does h later vars old.types kind.types kind.types old.registers mid.registers mid.registers s v.0 u.0 front p.more _ v.0.goals _ (v.0.head_types ++ type_in v.0.now r ∷ [])
      _ v.0.head_arguments both (subst (λ n. Does h later vars kind.types kind.types n n v.0 p.more v.0.goals (v.0.head_types ++ type_in v.0.now r ∷ []) v.0.head_arguments u.0) q.registers_stay
      (turns_does h later vars kind.types kind.registers v.0 u.0 p.more v.0.goals (v.0.head_types ++ type_in v.0.now r ∷ []) v.0.head_arguments u.1 behind))
      (let c = x.types_grow in omega (arith, c, grow)) (let z = x.registers_stay in omega (arith, z)) in (
        u.0,
        does_same h later vars old.types kind.types new.types old.registers mid.registers new.registers s u.0 (front ++ p.more) _ _ _ s.goals (Ts ++ T ∷ []) [] (sym kinds)
            (sym (p.registers_stay ∙ q.registers_stay)) (both.goals_are ∙ w.1.goals_are) (λ k. types_so_far k ++ type_is k ∷ []) none_so_far last,
        ap (λ (n : Registers). n.terms) u.1.now_stays ∙ v.1.same.terms ∙ w.2,
      );
}
