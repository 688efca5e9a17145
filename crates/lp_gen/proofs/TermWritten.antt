-- The code of a term, and of arguments one after the other.
use Rattle.std.proofs.Common.{◌≡◌, ◌∙◌, ◌≤◌, ◌<◌, ℕ, zero, suc, ◌+◌, List, [], ◌∷◌, ◌++◌, append_assoc, map, length, Bool, false, Option, Some, None, ap, refl, sym, subst, arith}
use Rattle.std.specs.Prelude.{All, sum_by}
use Rattle.std.specs.List.{list_any}
use Rattle.std.proofs.lemmas.List.{map-append}
use Rattle.std.proofs.lemmas.List.Sums.{sum_by-append}
use Rattle.std.proofs.lemmas.List.Elements.{All-nil, All-push}
use Rattle.lp_lemmas.proofs.Lists.{append_nil_sym, length_push_suc}
use Rattle.lp_calculus.specs.Types.{Ty, arrow}
use Rattle.lp_calculus.specs.Term.{Term}
use Rattle.lp_term.specs.Nodes.{Nodes}
use Rattle.lp_code.specs.declared.instruction.Instr.{Instr}
use Rattle.lp_code.specs.Length.{length_of}
use Rattle.lp_code.specs.Symbolic.{Built, variable, held, whole}
use Rattle.lp_code.specs.States.{State, Home}
use Rattle.lp_code.specs.Steps.{Later}
use Rattle.lp_code.specs.Rules.{is_passed}
use Rattle.lp_code.specs.Denote.{run}
use Rattle.lp_gen.specs.declared.emitter.Emitter.{Emitter}
use Rattle.lp_gen.specs.declared.environment.Environment.{Environment}
use Rattle.lp_gen.specs.declared.term_steps.TermStep.{TermStep}
use Rattle.lp_gen.specs.Steps.{from_of, to_of, Step, make_constant, make_integer, make_text, make_index, make_variable, from_register, apply_last, abstract_last, Around, listed}
use Rattle.lp_gen.specs.inner.Running.{HasRoom}
use Rattle.lp_gen.specs.inner.Listing.{around_of, plain_step}
use Rattle.lp_gen.specs.inner.Tasks.{Adds}
use Rattle.lp_gen.specs.inner.TermSteps.{Stack, stack, step_built, IsFine, steps_built, AreFine, StandIn, TermOfSteps}
use Rattle.lp_gen.specs.inner.TermLaw.{SameSides, Asks, Standing, AreOf, IsBuilt, with_variables, SameAround, AreSet, Made}
use Rattle.lp_gen.specs.inner.Owned.{makes, made_by, MakesOwn, StaysSet}
use Rattle.lp_gen.specs.inner.Written.{Goes, IsWell, TermWritten, AreWell, left_by, wholes, ArgumentsWritten}
use Rattle.lp_gen.proofs.Denoting.{room_less, room_front}
use Rattle.lp_gen.proofs.TypeWorks.{map_length}
use Rattle.lp_gen.proofs.Registers.{held_elsewhere}
use Rattle.lp_gen.proofs.StepPut.{stand_push}
use Rattle.lp_gen.proofs.VariablePut.{stand_past}
use Rattle.lp_gen.proofs.AroundSet.{around_same, around_then, all_seen, variables_same}
use Rattle.lp_gen.proofs.TermListed.{listed_comes}
use Rattle.lp_gen.proofs.Calm.{listed_calm}
use Rattle.lp_gen.proofs.OwnMadeBy.{listed_owns}
use Rattle.lp_gen.proofs.StepsOwn.{no_types_more}
use Rattle.lp_gen.proofs.CodeOwned.{none_owned, owns_then}
use Rattle.lp_gen.proofs.ConstantTypes.{known_constant}

-- what holds stays

no_some : (b : Built) → Some b ≡ None → ⊥
no_some b e = cc

step_keeps : (h : Home) (v n : ℕ) (i : Bool) (o : Step) (z : Stack) (r : ℕ) (b : Built) → IsFine h v n i o z → held z.registers r ≡ Some b → held (step_built h o z).registers r ≡ Some b
step_keeps h v n i (make_constant c Ts) z r b f e = e
step_keeps h v n i (make_integer k) z r b f e = e
step_keeps h v n i (make_text s) z r b f e = e
step_keeps h v n i (make_index k T) z r b f e = e
step_keeps h v n i (make_variable q T) z r b f e =
    held_elsewhere z.registers q r (Some (whole (variable q h.number) T)) (λ same. no_some b (sym e ∙ ap (held z.registers) same ∙ f.2)) ∙ e
step_keeps h v n i (from_register q) z r b f e = e
step_keeps h v n i (apply_last m) z r b f e = e
step_keeps h v n i (abstract_last T) z r b f e = e

steps_keep : (h : Home) (v n : ℕ) (i : Bool) (os : List Step) (z : Stack) (r : ℕ) (b : Built) → AreFine h v n i os z → held z.registers r ≡ Some b → held (steps_built h os z).registers r ≡ Some b
steps_keep h v n i [] z r b f e = e
steps_keep h v n i (o ∷ os) z r b f e = steps_keep h v n i os (step_built h o z) r b f.1 (step_keeps h v n i o z r b f.0 e)

-- variables stand in another state in which their registers hold the same
pub standing_on : (h : Home) (v n m : ℕ) (i : Bool) (σ : ℕ → Term) (a : Around) (xs ys : List (Option Built)) → Standing h v n i σ a xs →
    ((r : ℕ) → r < n → held ys r ≡ held xs r) → n ≤ m → m ≤ length ys →
    Standing h v m i σ a ys
standing_on h v n m i σ a xs ys x same le long = record {
  low = λ l w e. let q = x.low l w e in omega (arith, q, le);
  set = λ l w e s. same w.register (x.low l w e) ∙ x.set l w e s;
  unset = λ l w e s. same w.register (x.low l w e) ∙ x.unset l w e s;
  unmade = x.unmade;
  apart = x.apart;
  known = x.known;
  long = long;
}

pub then_goes : (h : Home) (later : Later) (vars n m k a b c : ℕ) (s t u : State) (is js : List Instr) → Goes h later vars n m a b s is t → Goes h later vars m k b c t js u → n ≤ m → a ≤ b →
    Goes h later vars n k a c s (is ++ js) u
then_goes h later vars n m k a b c s t u is js x y l o = record {
  runs = λ rest. ap (run h later s) (append_assoc is js rest) ∙ x.runs (js ++ rest) ∙ y.runs rest;
  place_is = let p = x.place_is in let q = y.place_is in let r = sum_by-append length_of is js in omega (arith, p, q, r);
  same = record {
    in_body = y.same.in_body ∙ x.same.in_body;
    head_types = y.same.head_types ∙ x.same.head_types;
    head_arguments = y.same.head_arguments ∙ x.same.head_arguments;
    goals = y.same.goals ∙ x.same.goals;
    frames = y.same.frames ∙ x.same.frames;
    assumed = y.same.assumed ∙ x.same.assumed;
  };
  types_kept = λ r q. y.types_kept r (omega (arith, q, l)) ∙ x.types_kept r q;
  terms_keep = λ r d q e. y.terms_keep r d (omega (arith, q, o)) (x.terms_keep r d q e);
  types_stand = y.types_stand;
  terms_stand = y.terms_stand;
}

pub room_goes : (h : Home) (later : Later) (v n m k l : ℕ) (s t : State) (is xs ys : List Instr) → Goes h later v n m k l s xs t → is ≡ xs ++ ys → HasRoom s (s.place + sum_by length_of is) →
    HasRoom t (t.place + sum_by length_of ys)
room_goes h later v n m k l s t is xs ys x e room =
    subst (λ fs. list_any (is_passed (t.place + sum_by length_of ys)) fs ≡ false) (sym x.same.frames)
    (room_less (t.place + sum_by length_of ys) (s.place + sum_by length_of is) s.frames (let p = ap
    (sum_by length_of) e in let q = sum_by-append length_of xs ys in let r = x.place_is in omega (arith, p, q, r)) room)

-- a term

none_loose : (os : List (Option Ty)) → AreOf [] os → os ≡ []
none_loose [] a = refl
none_loose (o ∷ os) a = absurd a

built_whole : (T : Ty) (u : Term) (b : Built) → IsBuilt [] T u b → b ≡ whole u T
built_whole T u b x = λ i. record { term = x.term i; type = x.type i; loose = none_loose b.loose x.loose i }

pub term_written : (K : ℕ → List Ty → Ty) (b : Nodes) (old new : Emitter) (before after : Environment) (steps : List TermStep) (r : ℕ) (F : Ty) (t : Term) → TermOfSteps b old new r steps →
    Adds b before after [] steps (listed K [] (around_of b before) F t) → TermWritten K old new (around_of b before) (around_of b after) r F t
term_written K b old new before after steps r F t x adds = record {
  more = x.more;
  code_is = x.code_is;
  types_grow = x.types_grow;
  terms_grow = x.terms_grow;
  calm = λ set. adds.around ∙ listed_calm K [] (around_of b before) F t set;
  owns = λ start.
      let a = around_of b before in
      let l = listed K [] a F t in
      let o = listed_owns K [] a F t start in
      record {
        made = subst (λ z. MakesOwn a z (makes x.more)) (sym adds.around) (subst (MakesOwn a l.around) (sym (x.own ∙ ap made_by adds.steps)) o.makes);
        same = subst (SameAround a) (sym adds.around) o.same;
        stays = subst (StaysSet a) (sym adds.around) o.stays;
      };
  no_types = x.no_types;
  denotes = λ h later vars s σ Γ T asked st te low few stands well same room.
      let a = around_of b before in
      let l = listed K [] a F t in
      let law = listed_comes h vars old.registers s.in_body σ Γ K asked.asks (λ c Ts U e k. known_constant h.tables vars c Ts U asked.known e k) [] a F T t well.typed well.normal well.known
      well.positive well.of well.indices same well.seen s.now.terms [] stands in
      let c = law.2 in
      let start = stack s.now.terms [] in
      let fine : AreFine h vars old.registers s.in_body (map (plain_step b) steps) start = subst (λ os. AreFine h vars old.registers s.in_body os start) (sym adds.steps) c.fine in
      let is : steps_built h (map (plain_step b) steps) start ≡ stack c.registers (c.built ∷ []) = ap (λ os. steps_built h os start) adds.steps ∙ c.is in
      let w = x.denotes h later vars s c.registers c.built st te low few fine is room in
      let many = w.1.terms_stand.as_many.enough in
      let grow = x.terms_grow in (
        w.0,
        record {
          runs = w.1.runs;
          place_is = w.1.place_is;
          same = w.1.same;
          types_kept = w.1.types_kept;
          terms_keep = λ q d below e. w.1.terms_kept q below ∙ subst (λ (z : Stack). held z.registers q ≡ Some d) c.is (steps_keep h vars old.registers s.in_body l.steps start q d c.fine e);
          types_stand = w.1.types_stand;
          terms_stand = w.1.terms_stand;
        },
        w.2 ∙ ap (λ d. Some d) (built_whole T (with_variables σ a 0 t) c.built c.good),
        w.3,
        subst (λ z. Standing h vars new.registers s.in_body σ z w.0.now.terms) (sym adds.around)
            (standing_on h vars old.registers new.registers s.in_body σ l.around c.registers w.0.now.terms c.stands w.1.terms_kept grow (omega (arith, many, few))),
        subst (SameAround a) (sym adds.around) law.0,
        subst (λ z. Made h.number a z (with_variables σ a 0 t)) (sym adds.around) law.1,
      );
}

-- arguments

pub no_arguments : (K : ℕ → List Ty → Ty) (e : Emitter) (a : Around) (F : Ty) → ArgumentsWritten K e e a a [] F []
no_arguments K e a F = record {
  more = [];
  code_is = append_nil_sym e.code.items;
  types_grow = omega arith;
  terms_grow = omega arith;
  calm = λ set. refl;
  owns = λ start. none_owned a [] refl;
  no_types = refl;
  denotes = λ h later vars s σ Γ A R asked st te low few stands well asks room. (
    s,
    record {
      runs = λ rest. refl;
      place_is = let z : sum_by length_of [] ≡ 0 = refl in omega (arith, z);
      same = record { in_body = refl; head_types = refl; head_arguments = refl; goals = refl; frames = refl; assumed = refl };
      types_kept = λ r l. refl;
      terms_keep = λ r d l e. e;
      types_stand = st;
      terms_stand = te;
    },
    tt,
    All-nil (λ r. r < e.registers),
    stands,
    around_same a,
  );
}

-- the last argument apart
pub well_last : (h : Home) (v : ℕ) (Γ : List Ty) (a : Around) (A : Ty) (ts : List Term) (t : Term) (R : Ty) → AreWell h v Γ a A (ts ++ t ∷ []) R →
    (M : Ty) × (B : Ty) × AreWell h v Γ a A ts M × (M ≡ arrow B R) × IsWell h v Γ a t B
well_last h v Γ a A [] t R w = (A, w.0, refl, w.2 ∙ ap (arrow w.0) w.4, w.3)
well_last h v Γ a A (u ∷ us) t R w = let x = well_last h v Γ a w.1 us t R w.4 in (x.0, x.1, (w.0, w.1, w.2, w.3, x.2), x.3, x.4)

pub asks_left : (h : Home) (v : ℕ) (Γ : List Ty) (a : Around) (F A : Ty) (ts : List Term) (M : Ty) → AreWell h v Γ a A ts M → Asks F A → Asks (left_by F (length ts)) M
asks_left h v Γ a F A [] M w q = subst (Asks F) w q
asks_left h v Γ a F A (t ∷ ts) M w q = asks_left h v Γ a (to_of F) w.1 ts M w.4 (subst (Asks F) w.2 q).1

pub wholes_last : (h : Home) (v : ℕ) (Γ : List Ty) (a : Around) (f : Term → Term) (A : Ty) (ts : List Term) (t : Term) (M B R : Ty) → AreWell h v Γ a A ts M → M ≡ arrow B R →
    wholes A (map f (ts ++ t ∷ [])) ≡ wholes A (map f ts) ++ whole (f t) B ∷ []
wholes_last h v Γ a f A [] t M B R w e = ap (λ T. whole (f t) (from_of T) ∷ []) (w ∙ e)
wholes_last h v Γ a f A (u ∷ us) t M B R w e = ap (λ l. whole (f u) (from_of A) ∷ l) (wholes_last h v Γ a f (to_of A) us t M B R (subst (λ T. AreWell h v Γ a T us M) (sym (ap to_of w.2)) w.4) e)

pub argument_then : (K : ℕ → List Ty → Ty) (old mid new : Emitter) (a b c : Around) (rs after : List ℕ) (r : ℕ) (F G : Ty) (ts : List Term) (t : Term) → ArgumentsWritten K old mid a b rs F ts →
    TermWritten K mid new b c r (from_of G) t → G ≡ left_by F (length ts) → after ≡ rs ++ r ∷ [] → ArgumentsWritten K old new a c after F (ts ++ t ∷ [])
argument_then K old mid new a b c rs after r F G ts t x p left e = record {
  more = x.more ++ p.more;
  code_is = p.code_is ∙ ap (λ l. l ++ p.more) x.code_is ∙ append_assoc old.code.items x.more p.more;
  types_grow = let i = x.types_grow in let j = p.types_grow in omega (arith, i, j);
  terms_grow = let i = x.terms_grow in let j = p.terms_grow in omega (arith, i, j);
  calm = λ set. p.calm (subst AreSet (sym (x.calm set)) set) ∙ x.calm set;
  owns = owns_then a b c x.more p.more x.owns p.owns;
  no_types = no_types_more x.more p.more x.no_types p.no_types;
  denotes = λ h later vars s σ Γ A R asked st te low few stands well asks room.
      let i = p.types_grow in
      let j = p.terms_grow in
      let parts = well_last h vars Γ a A ts t R well in
      let w = x.denotes h later vars s σ Γ A parts.0 asked st te (omega (arith, low, i)) (omega (arith, few, j)) stands parts.2 asks (room_front s (x.more ++ p.more) x.more p.more refl room) in
      let body = w.1.same.in_body in
      let here : Standing h vars mid.registers w.0.in_body σ b w.0.now.terms = subst (λ z. Standing h vars mid.registers z σ b w.0.now.terms) (sym body) w.4 in
      let good = parts.4 in
      let moved : IsWell h vars Γ b t parts.1 = record {
        typed = good.typed;
        normal = good.normal;
        known = good.known;
        positive = good.positive;
        of = good.of;
        indices = good.indices;
        seen = all_seen a b Γ 0 t w.5 good.seen;
      } in
      let sides : SameSides (from_of G) parts.1 = (subst (λ H. Asks H (arrow parts.1 R)) (sym left)
      (subst (Asks (left_by F (length ts))) parts.3 (asks_left h vars Γ a F A ts parts.0 parts.2 asks))).0 in
      let v = p.denotes h later vars w.0 σ Γ parts.1 asked w.1.types_stand w.1.terms_stand low few here moved sides
      (room_goes h later vars old.types mid.types old.registers mid.registers s w.0 (x.more ++ p.more) x.more p.more w.1 refl room) in
      let f = with_variables σ a 0 in
      let holds : held v.0.now.terms r ≡ Some (whole (f t) parts.1) = v.2 ∙ ap (λ u. Some (whole u parts.1)) (variables_same σ a b 0 t w.5) in
      let earlier : StandIn v.0.now.terms rs (wholes A (map f ts)) = stand_past mid.registers w.0.now.terms v.0.now.terms rs (wholes A (map f ts)) (λ k d l g. v.1.terms_keep k d l g) w.3 w.2 in
      let all : StandIn v.0.now.terms (rs ++ r ∷ []) (wholes A (map f (ts ++ t ∷ []))) =
      subst (StandIn v.0.now.terms (rs ++ r ∷ [])) (sym (wholes_last h vars Γ a f A ts t parts.0 parts.1 R parts.2 parts.3))
      (stand_push v.0.now.terms rs (wholes A (map f ts)) r (whole (f t) parts.1) earlier holds) in (
        v.0,
        then_goes h later vars old.types mid.types new.types old.registers mid.registers new.registers s w.0 v.0 x.more p.more w.1 v.1 x.types_grow x.terms_grow,
        subst (λ l. StandIn v.0.now.terms l (wholes A (map f (ts ++ t ∷ [])))) (sym e) all,
        subst (All (λ r. r < new.registers)) (sym e) (All-push (λ r. r < new.registers) rs r (λ k d l. let q = w.3 k d l in omega (arith, q, j)) v.3),
        subst (λ z. Standing h vars new.registers z σ c v.0.now.terms) body v.4,
        around_then a b c w.5 v.5,
      );
}

pub left_more : (F : Ty) (n : ℕ) → left_by F (suc n) ≡ to_of (left_by F n)
left_more F zero = refl
left_more F (suc n) = left_more (to_of F) n

-- one argument more of those that are yielded
pub next_argument_written : {A : Type 0} (f : A → Term) (K : ℕ → List Ty → Ty) (old mid new : Emitter) (a b c : Around) (rs after : List ℕ) (r : ℕ) (F G H of : Ty) (xs : List A) (x : A) →
    ArgumentsWritten K old mid a b rs F (map f xs) × (G ≡ left_by F (length xs)) → TermWritten K mid new b c r of (f x) → of ≡ from_of G → H ≡ to_of G → after ≡ rs ++ r ∷ [] →
    ArgumentsWritten K old new a c after F (map f (xs ++ x ∷ [])) × (H ≡ left_by F (length (xs ++ x ∷ [])))
next_argument_written f K old mid new a b c rs after r F G H of xs x w p is left e = (
  subst (ArgumentsWritten K old new a c after F) (sym (map-append f xs (x ∷ []))) (argument_then K old mid new a b c rs after r F G (map f xs) (f x) w.0
      (subst (λ T. TermWritten K mid new b c r T (f x)) is p) (w.1 ∙ ap (left_by F) (sym (map_length f xs))) e),
  left ∙ ap to_of w.1 ∙ sym (left_more F (length xs)) ∙ ap (left_by F) (sym (length_push_suc xs x)),
)
