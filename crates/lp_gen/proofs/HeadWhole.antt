-- The head as a whole.
use Rattle.std.proofs.Common.{◌≡◌, ◌∙◌, ℕ, suc, ◌-◌, List, [], ◌∷◌, ◌++◌, append_assoc, map, length, Bool, true, false, Option, Some, None, ap, refl, sym, subst, arith, true≢false}
use Rattle.std.specs.Prelude.{nat_eq, not, ◌&&◌, ◌||◌, is_some, unwrap_or, option_and_then}
use Rattle.std.proofs.lemmas.Bool.{eqb-true, eq-eqb}
use Rattle.lp_calculus.specs.Types.{Ty}
use Rattle.lp_calculus.specs.Spine.{head_of}
use Rattle.lp_term.specs.Spine.{IsNoApplication}
use Rattle.lp_calculus.specs.Term.{Term, index, atom, abs, app, apply, constant, integer, text, eigen, logic, param}
use Rattle.lp_calculus.specs.Typing.{Scheme, o_type}
use Rattle.lp_standard.specs.Positive.{are_positive}
use Rattle.lp_code.specs.declared.record.RecordHead.{RecordHead}
use Rattle.lp_code.specs.declared.record.RecordHead.TheVariants.{Const, Register}
use Rattle.lp_code.specs.declared.instruction.Instr.TheVariants as on
use Rattle.lp_code.specs.Symbolic.{Built, held, whole, result_type, equal_types, plain_terms}
use Rattle.lp_code.specs.States.{State, Home}
use Rattle.lp_code.specs.Steps.{constant_of, built_of, head_built}
use Rattle.lp_code.specs.Rules.{count_of, head_count, scheme_count, has_count, breaks_head}
use Rattle.lp_gen.specs.declared.emitter.Emitter.{Emitter}
use Rattle.lp_gen.specs.inner.Running.{TermsStand}
use Rattle.lp_gen.specs.Steps.{Seen, Around, at_level, level_in, seen_in, type_or, head_type}
use Rattle.lp_gen.specs.inner.TermLaw.{Asks, Standing, with_variables}
use Rattle.lp_gen.specs.inner.Written.{AreWell, wholes}
use Rattle.lp_gen.specs.inner.Heading.{ArgumentsGot, TypesGot, seen_register, level_register, predicate_of, IsPredicate, HeadMatched}
use Rattle.lp_gen.proofs.CodeOwned.{none_owned, owns_then}
use Rattle.lp_gen.proofs.StepsOwn.{no_types_more}
use Rattle.lp_gen.proofs.Denoting.{room_front}
use Rattle.lp_gen.proofs.TypeWorks.{map_length}
use Rattle.lp_gen.proofs.LooseOf.{equal_self, some_same}
use Rattle.lp_gen.proofs.TermListed.{known_sides, has_scheme, asks_same}
use Rattle.lp_gen.proofs.ConstantTypes.{known_constant}
use Rattle.lp_gen.proofs.AtomWritten.{spine_typed, with_apply, plain_wholes, arguments_is, head_apply, then_does, does_same}
use Rattle.lp_gen.proofs.ArgumentGot.{built_same, index_is, seen_at}
use Rattle.lp_gen.proofs.HeadGot.{room_does, predicate_on, wholes_length}

-- what is left of the type of a head behind its arguments

result_is : (h : Home) (v : ℕ) (Γ : List Ty) (a : Around) (A : Ty) (ts : List Term) (R : Ty) → AreWell h v Γ a A ts R → result_type A (length ts) ≡ R
result_is h v Γ a A [] R w = w
result_is h v Γ a A (t ∷ ts) R w = ap (λ T. result_type T (suc (length ts))) w.2 ∙ result_is h v Γ a w.1 ts R w.4

-- NECK breaks no rule of the head
neck_fine : (h : Home) (u : State) (n : ℕ) (A : Ty) → nat_eq (length u.head_types) (head_count h) ≡ true → length u.head_arguments ≡ n → (head_built h u).type ≡ A → result_type A n ≡ o_type →
    breaks_head h u on.Neck ≡ false
neck_fine h u n A count many type result =
    go (is_some h.self.head)
  where
    both : (not (nat_eq (length u.head_types) (head_count h)) || not (equal_types (result_type (head_built h u).type (length u.head_arguments)) o_type)) ≡ false
    both = (λ i. not (count i) || not (equal_types (result_type (type i) (many i)) o_type)) ∙ ap (λ T. false || not (equal_types T o_type)) result ∙ ap (λ t. false || not t) (equal_self o_type)

    go : (e : Bool) → (e && (not (nat_eq (length u.head_types) (head_count h)) || not (equal_types (result_type (head_built h u).type (length u.head_arguments)) o_type))) ≡ false
    go true = both
    go false = refl

counts : (s : Option Scheme) (n : ℕ) → has_count s n ≡ true → nat_eq n (scheme_count s) ≡ true
counts None n e = absurd (true≢false (sym e))
counts (Some c) n e = eq-eqb n c.count (sym (eqb-true c.count n e))

pub constant_matched : (K : ℕ → List Ty → Ty) (old mid new : Emitter) (a b : Around) (c : ℕ) (Ts : List Ty) (ts : List Term) → TypesGot old mid Ts → ArgumentsGot K mid new a b (K c Ts) ts →
    HeadMatched K old new a b (Const c) (apply (atom (constant c Ts)) ts)
constant_matched K old mid new a b c Ts ts x y = record {
  more = x.more ++ y.more;
  code_is = y.code_is ∙ ap (λ l. l ++ y.more) x.code_is ∙ append_assoc old.code.items x.more y.more;
  types_grow = let i = x.types_grow in let j = y.types_grow in omega (arith, i, j);
  terms_grow = let i = x.registers_stay in let j = y.terms_grow in omega (arith, i, j);
  owns = owns_then a a b x.more y.more (λ start. none_owned a x.more x.plain.no_own) y.owns;
  predicate_is = sym (ap (predicate_of a) (head_apply (atom (constant c Ts)) ts));
  no_types = no_types_more x.more y.more x.plain.no_types y.no_types;
  denotes = λ h later vars s σ Γ std asked st te low few before no_types no_args self stands good predicate own stood room.
      let head = atom (constant c Ts) in
      let f = with_variables σ a 0 in
      let i = y.types_grow in
      let stay = x.registers_stay in
      let sp = spine_typed h vars Γ a ts head o_type good.typed good.normal good.known (sym (ap are_positive (arguments_is head ts tt)) ∙ good.positive) good.seen good.indices in
      let A = sp.0 in
      let well = sp.5 (known_sides h.tables.kinds vars A (known_constant h.tables vars c Ts A asked.known sp.1 sp.3)) in
      let count : head_count h ≡ scheme_count (h.tables.constants c) = ap (λ p. count_of h p) self in
      let many = eqb-true (length Ts) (scheme_count (h.tables.constants c)) (counts (h.tables.constants c) (length Ts) (has_scheme Ts (h.tables.constants c) A sp.1)) in
      let w = x.denotes h later vars s std st te (omega (arith, low, i)) before no_types no_args sp.3 (λ e. omega (arith, count, many)) (room_front s (x.more ++ y.more) x.more y.more refl room) in
      let built : head_built h w.0 ≡ whole head A = ap (built_of h w.0) self ∙ ap (constant_of h.tables c) w.1.head_types_are ∙ ap (λ o. whole head (unwrap_or o o_type)) sp.1 in
      let type = ap (λ (d : Built). d.type) built in
      let stands_w : Standing h vars mid.registers w.0.in_body σ a w.0.now.terms =
      subst (λ n. Standing h vars n w.0.in_body σ a w.0.now.terms) (sym stay) (subst (λ z. Standing h vars old.registers z σ a w.0.now.terms) (sym w.1.in_body_stays)
      (subst (Standing h vars old.registers s.in_body σ a) (sym w.2) stands)) in
      let te_w : TermsStand h mid.registers w.0 = w.1.terms_stand in
      let v = y.denotes h later vars w.0 σ Γ o_type std asked w.1.types_stand te_w low few (w.1.in_body_stays ∙ before) w.1.arguments_are stands_w
      (subst (λ T. AreWell h vars Γ a T ts o_type) (sym type) well)
      (subst (Asks (K c Ts)) (sym type) (asked.asks c Ts A sp.1)) (predicate_on old.registers mid.registers s w.0 h.self.head (omega (arith, stay)) w.1.terms_keep predicate) own stood
      (room_does h later vars old.types mid.types old.registers mid.registers s w.0 (x.more ++ y.more) x.more y.more s.goals Ts [] w.1 refl room) in
      let args : v.0.head_arguments ≡ wholes A (map f ts) = v.1.arguments_are ∙ ap (λ T. wholes T (map f ts)) type in
      let types : v.0.head_types ≡ Ts = v.1.head_types_are ∙ w.1.head_types_are in
      let last : head_built h v.0 ≡ whole head A = ap (built_of h v.0) self ∙ ap (constant_of h.tables c) types ∙ ap (λ o. whole head (unwrap_or o o_type)) sp.1 in (
        v.0,
        does_same h later vars old.types new.types new.types old.registers new.registers new.registers s v.0 (x.more ++ y.more) w.0.goals w.0.head_types
            (wholes (head_built h w.0).type (map f ts)) s.goals v.0.head_types v.0.head_arguments refl refl w.1.goals_are (sym v.1.head_types_are) (sym v.1.arguments_are)
            (then_does h later vars old.types mid.types new.types old.registers mid.registers new.registers s w.0 v.0 x.more y.more s.goals w.0.goals Ts w.0.head_types []
            (wholes (head_built h w.0).type (map f ts)) w.1 v.1 x.types_grow (omega (arith, stay))),
        subst (λ z. Standing h vars new.registers z σ b v.0.now.terms) w.1.in_body_stays v.2,
        v.3,
        (λ k. apply (last k).term (plain_terms (args k))) ∙ ap (apply head) (plain_wholes A (map f ts)) ∙ sym (with_apply σ a 0 head ts),
        neck_fine h v.0 (length ts) A ((λ k. nat_eq (length (types k)) (count k)) ∙ counts (h.tables.constants c) (length Ts) (has_scheme Ts (h.tables.constants c) A sp.1))
            (ap length args ∙ wholes_length A (map f ts) ∙ map_length f ts) (ap (λ (d : Built). d.type) last) (result_is h vars Γ a A ts o_type well),
        ap plain_terms args ∙ plain_wholes A (map f ts) ∙ ap (map f) (sym (arguments_is head ts tt)),
      );
}

pub variable_matched : (K : ℕ → List Ty → Ty) (old new : Emitter) (a b : Around) (j r : ℕ) (ts : List Term) → ArgumentsGot K old new a b (head_type K [] a (index j)) ts →
    ((l : ℕ) (v : Seen) → level_in a j ≡ Some l → at_level a l ≡ Some v → v.register ≡ r) → Register r ≡ predicate_of a (index j) → HeadMatched K old new a b (Register r) (apply (index j) ts)
variable_matched K old new a b j r ts y register named = record {
  more = y.more;
  code_is = y.code_is;
  types_grow = y.types_grow;
  terms_grow = y.terms_grow;
  owns = y.owns;
  no_types = y.no_types;
  predicate_is = named ∙ sym (ap (predicate_of a) (head_apply (index j) ts));
  denotes = λ h later vars s σ Γ std asked st te low few before no_types no_args self stands good predicate own stood room.
      let head = index j in
      let f = with_variables σ a 0 in
      let sp = spine_typed h vars Γ a ts head o_type good.typed good.normal good.known (sym (ap are_positive (arguments_is head ts tt)) ∙ good.positive) good.seen good.indices in
      let A = sp.0 in
      let well = sp.5 (known_sides h.tables.kinds vars A (good.indices j A sp.1)) in
      let z = seen_at Γ a j (sp.4 (omega arith)) in
      let v = z.1 in
      let of : v.of ≡ A = some_same v.of A (sym z.4 ∙ sp.1) in
      let at : v.register ≡ r = register z.0 v z.2 z.3 in
      let set : held s.now.terms r ≡ Some (whole (σ z.0) A) = ap (held s.now.terms) (sym at) ∙ stands.set z.0 v z.3 (good.captured j (head_apply head ts) z.0 v z.2 z.3)
      ∙ ap (λ T. Some (whole (σ z.0) T)) of in
      let default : Built = record { term = index 0; type = o_type; loose = [] } in
      let built : head_built h s ≡ whole (σ z.0) A = ap (built_of h s) self ∙ ap (λ o. unwrap_or o default) set in
      let type = ap (λ (d : Built). d.type) built in
      let asks : Asks (head_type K [] a head) A = subst (λ F. Asks F A) (sym (let back : j - 0 ≡ j = omega arith in ap (λ k. type_or (seen_in a k))
      back ∙ ap type_or (ap (option_and_then (at_level a)) z.2
      ∙ z.3) ∙ of)) (asks_same A) in
      let u = y.denotes h later vars s σ Γ o_type std asked st te low few before no_args stands
      (subst (λ T. AreWell h vars Γ a T ts o_type) (sym type) well) (subst (Asks (head_type K [] a head)) (sym type)
      asks) predicate own stood room in
      let args : u.0.head_arguments ≡ wholes A (map f ts) = u.1.arguments_are ∙ ap (λ T. wholes T (map f ts)) type in
      let last : head_built h u.0 ≡ whole (σ z.0) A = built_same h old.registers s u.0 h.self.head predicate u.1.head_types_are u.1.terms_keep ∙ built in (
        u.0,
        does_same h later vars old.types new.types new.types old.registers new.registers new.registers s u.0 y.more s.goals s.head_types
            (wholes (head_built h s).type (map f ts)) s.goals u.0.head_types
            u.0.head_arguments refl refl refl (sym u.1.head_types_are) (sym u.1.arguments_are) u.1,
        u.2,
        u.3,
        (λ k. apply (last k).term (plain_terms (args k))) ∙ (λ k. apply (sym (index_is σ Γ a j z) k) (plain_wholes A (map f ts) k)) ∙ sym (with_apply σ a 0 head ts),
        neck_fine h u.0 (length ts) A ((λ k. nat_eq (length ((u.1.head_types_are ∙ no_types) k)) (count_of h (self k))) ∙ eq-eqb 0 0 refl)
            (ap length args ∙ wholes_length A (map f ts) ∙ map_length f ts) (ap (λ (d : Built). d.type) last) (result_is h vars Γ a A ts o_type well),
        ap plain_terms args ∙ plain_wholes A (map f ts) ∙ ap (map f) (sym (arguments_is head ts tt)),
      );
}

-- a head that is no constant

never_matched : (K : ℕ → List Ty → Ty) (old new : Emitter) (a b : Around) (F : Ty) (ts : List Term) (p : RecordHead) (t : Term) → ArgumentsGot K old
    new a b F ts → (IsPredicate (head_of t) → ⊥) → p ≡ predicate_of a (head_of t) →
    HeadMatched K old new a b p t
never_matched K old new a b F ts p t y none named = record {
  more = y.more;
  code_is = y.code_is;
  types_grow = y.types_grow;
  terms_grow = y.terms_grow;
  owns = y.owns;
  no_types = y.no_types;
  predicate_is = named;
  denotes = λ h later vars s σ Γ std asked st te low few before no_types no_args self stands good predicate own stood room. absurd (none good.predicate);
}

a_register : (a : Around) (o : Option ℕ) → (r : ℕ) × (level_register a o ≡ Register r)
a_register a None = (0, refl)
a_register a (Some l) = go (at_level a l)
  where
    go : (o : Option Seen) → (r : ℕ) × (seen_register o ≡ Register r)
    go None = (0, refl)
    go (Some v) = (v.register, refl)

same_register : (q r : ℕ) → ◌≡◌ {A = RecordHead} (Register q) (Register r) → q ≡ r
same_register q r e = cc

pub other_matched : (K : ℕ → List Ty → Ty) (old new : Emitter) (a b : Around) (head : Term) (ts : List Term) (t : Term) (p : RecordHead) → IsNoApplication head →
    ((c : ℕ) (Ts : List Ty) → head ≡ atom (constant c Ts) → ⊥) → ArgumentsGot K old new a b (head_type K [] a head) ts → apply head ts ≡ t → p ≡ predicate_of a head → HeadMatched K old new a b p t
other_matched K old new a b (index j) ts t p none other y e named =
    let r = a_register a (level_in a j) in
    subst (λ p. HeadMatched K old new a b p t) (sym (named ∙ r.1)) (subst (HeadMatched K old new a b (Register r.0)) e (variable_matched K old new a b j r.0 ts y
    (λ l v f g. same_register v.register r.0 (sym (ap (level_register a) f ∙ ap seen_register g) ∙ r.1)) (sym r.1)))
other_matched K old new a b (atom (constant c Ts)) ts t p none other y e named = absurd (other c Ts refl)
other_matched K old new a b (atom (integer z)) ts t p none other y e named = never_matched K old new a b o_type ts p t y
    (λ q. subst IsPredicate (ap head_of (sym e) ∙ head_apply (atom (integer z)) ts) q)
    (named ∙ ap (predicate_of a) (sym (ap head_of (sym e) ∙ head_apply (atom (integer z)) ts)))
other_matched K old new a b (atom (text s)) ts t p none other y e named = never_matched K old new a b o_type ts p t y
    (λ q. subst IsPredicate (ap head_of (sym e) ∙ head_apply (atom (text s)) ts) q)
    (named ∙ ap (predicate_of a) (sym (ap head_of (sym e) ∙ head_apply (atom (text s)) ts)))
other_matched K old new a b (atom (eigen k)) ts t p none other y e named = never_matched K old new a b o_type ts p t y
    (λ q. subst IsPredicate (ap head_of (sym e) ∙ head_apply (atom (eigen k)) ts) q)
    (named ∙ ap (predicate_of a) (sym (ap head_of (sym e) ∙ head_apply (atom (eigen k)) ts)))
other_matched K old new a b (atom (logic x l)) ts t p none other y e named = never_matched K old new a b o_type ts p t y
    (λ q. subst IsPredicate (ap head_of (sym e) ∙ head_apply (atom (logic x l)) ts) q)
    (named ∙ ap (predicate_of a) (sym (ap head_of (sym e) ∙ head_apply (atom (logic x l)) ts)))
other_matched K old new a b (atom (param k T)) ts t p none other y e named = never_matched K old new a b o_type ts p t y
    (λ q. subst IsPredicate (ap head_of (sym e) ∙ head_apply (atom (param k T)) ts) q)
    (named ∙ ap (predicate_of a) (sym (ap head_of (sym e) ∙ head_apply (atom (param k T)) ts)))
other_matched K old new a b (abs u) ts t p none other y e named = never_matched K old new a b o_type ts p t y
    (λ q. subst IsPredicate (ap head_of (sym e) ∙ head_apply (abs u) ts) q) (named ∙ ap (predicate_of a)
    (sym (ap head_of (sym e) ∙ head_apply (abs u) ts)))
other_matched K old new a b (app u v) ts t p none other y e named = absurd none
