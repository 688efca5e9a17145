-- A record is run to its end.
use Rattle.std.proofs.Common.{◌≡◌, ◌∙◌, ◌≤◌, ◌<◌, ℕ, ◌+◌, ◌-◌, List, [], ◌∷◌, ◌++◌, append_assoc, length, map, Bool, true, false, Option, Some, None, ap, refl, sym, subst, arith, true≢false}
use Rattle.std.specs.Prelude.{nat_eq, nat_le, not, ◌&&◌, ◌||◌, if◌then◌else◌, is_some, sum_by, option_map, slice_get}
use Rattle.std.specs.List.{list_any}
use Rattle.std.proofs.lemmas.Bool.{leb-false, lt-leb}
use Rattle.lp_calculus.specs.Types.{Ty}
use Rattle.lp_calculus.specs.Term.{Term, apply}
use Rattle.lp_calculus.specs.Typing.{o_type}
use Rattle.lp_calculus.specs.Spine.{arguments}
use Rattle.lp_model.specs.Flat.{Goals, Clauses, no_goals, map_goals, same_type}
use Rattle.lp_code.specs.declared.instruction.Instr.{Instr}
use Rattle.lp_code.specs.declared.instruction.Instr.TheVariants as on
use Rattle.lp_code.specs.declared.record.RecordHead.{RecordHead}
use Rattle.lp_code.specs.Length.{length_of}
use Rattle.lp_code.specs.Symbolic.{Built, held, whole, result_type, equal_types, plain_terms}
use Rattle.lp_code.specs.States.{State, Home}
use Rattle.lp_code.specs.Steps.{Later, head_built}
use Rattle.lp_code.specs.Rules.{is_passed, head_count, breaks_head, nesting_limit}
use Rattle.lp_code.specs.Denote.{Done, run, head_term}
use Rattle.lp_gen.specs.Sources.{goals_depth}
use Rattle.lp_gen.specs.declared.emitter.Emitter.{Emitter}
use Rattle.lp_gen.specs.inner.Running.{TermsStand}
use Rattle.lp_gen.specs.Steps.{Seen, Around, at_level}
use Rattle.lp_gen.specs.inner.TermLaw.{Standing, AreSet, as_set, with_variables, SameAround}
use Rattle.lp_gen.specs.inner.Owned.{makes_types, AreStarted}
use Rattle.lp_gen.specs.inner.Written.{Goes, CodeOwns}
use Rattle.lp_gen.specs.inner.Doing.{Does}
use Rattle.lp_gen.specs.inner.Heading.{PredicateStands, IsHeadAtom}
use Rattle.lp_gen.specs.inner.Beginning.{OwnMade, behind_head, NeckPut}
use Rattle.lp_gen.specs.inner.Bodies.{IsShort, bare_goals, said_goals}
use Rattle.lp_gen.specs.inner.GoalCode.{GoalsCode}
use Rattle.lp_gen.specs.inner.OpenGoals.{plain_goals}
use Rattle.lp_gen.specs.inner.BodyLaw.{GoalsFit, AreBelow, IsAround, AreLater, IsInside}
use Rattle.lp_gen.specs.inner.Recorded.{MayRun, HeadWritten}
use Rattle.lp_gen.proofs.AroundSet.{around_same, around_then, level_same, seen_same, variables_same, seen_of}
use Rattle.lp_gen.proofs.CodeOwned.{none_owned}
use Rattle.lp_gen.proofs.OwnMadeBy.{started_on}
use Rattle.lp_gen.proofs.ArgumentGot.{built_same}
use Rattle.lp_gen.proofs.HeadGot.{nothing_does, predicate_on}
use Rattle.lp_gen.proofs.BodySaid.{TellClauses}
use Rattle.lp_gen.proofs.BodyEnds.{ended_state}
use Rattle.lp_gen.proofs.BodyRun.{body_run}

-- what is asked of a head
abbrev pub HeadFits : (h : Home) → (vars terms : ℕ) → List Ty → Around → State → Option Term → Type 0
HeadFits h v k Γ a s None = h.self.head ≡ None
HeadFits h v k Γ a s (Some t) = IsHeadAtom h v Γ a t × PredicateStands h.self.head k s

abbrev pub HeadIs : Home → (σ : ℕ → Term) → Around → State → Option Term → Type 0
HeadIs h σ a s None = Unit {0}
HeadIs h σ a s (Some t) = (head_term h s ≡ with_variables σ a 0 t) × (plain_terms s.head_arguments ≡ map (with_variables σ a 0) (arguments t))

-- behind the head
record HeadRan (h : Home) (later : Later) (vars types types' terms terms' : ℕ) (s : State) (more : List Instr) (σ : ℕ → Term) (a a2 : Around) (o : Option Term) : Type 0 where
  pub state : State
  pub does : Does h later vars types types' terms terms' s more s.goals state.head_types state.head_arguments state
  pub stands : Standing h vars terms' s.in_body σ a2 state.now.terms
  pub same : SameAround a a2
  pub is : HeadIs h σ a state o
  pub fine : breaks_head h state on.Neck ≡ false
  pub predicate : PredicateStands h.self.head terms s

-- the code of a head
pub record HeadMore (e e' : Emitter) : Type 0 where
  pub more : List Instr
  pub code_is : e'.code.items ≡ e.code.items ++ more
  pub types_grow : e.types ≤ e'.types
  pub terms_grow : e.registers ≤ e'.registers

pub head_more : (K : ℕ → List Ty → Ty) (e e' : Emitter) (a a' : Around) (p : Option RecordHead) (o : Option Term) → HeadWritten K e e' a a' p o → HeadMore e e'
head_more K e e' a a' None None (code, types, registers, same) = record {
  more = [];
  code_is = code ∙ sym (Rattle.std.proofs.lemmas.List.append-nil e.code.items);
  types_grow = omega (arith, types);
  terms_grow = omega (arith, registers);
}
head_more K e e' a a' None (Some t) x = absurd x
head_more K e e' a a' (Some p) None x = absurd x
head_more K e e' a a' (Some p) (Some t) x = record { more = x.more; code_is = x.code_is; types_grow = x.types_grow; terms_grow = x.terms_grow }

no_predicate : (h : Home) (n : ℕ) (s : State) → h.self.head ≡ None → PredicateStands h.self.head n s
no_predicate h n s e = subst (λ p. PredicateStands p n s) (sym e) tt

head_ran : (h : Home) (later : Later) (K : ℕ → List Ty → Ty) (vars : ℕ) (next : ℕ) (σ : ℕ → Term) (Γ : List Ty) (B : List Bool) (a a2 : Around)
    (Q : ℕ → Type 0) (s : State) (e e2 : Emitter) (p : Option RecordHead)
    (o : Option Term) → (x : HeadWritten K e e2 a a2 p o) → MayRun h K vars e.types e.registers next σ Γ B a Q s → HeadFits h vars e.registers Γ a s o → h.self.head ≡ p → e2.types ≤ h.self.types →
    e2.registers ≤ h.self.registers → HeadRan h later vars e.types e2.types e.registers e2.registers s (head_more K e e2 a a2 p o x).more σ a a2 o
unfolding head_more
head_ran h later K vars next σ Γ B a a2 Q s e e2 None None (code, types, registers, same) m fits self few low = record {
  state = s;
  does = subst (λ k. Does h later vars e.types k e.registers e2.registers s [] s.goals s.head_types s.head_arguments s) (sym types)
      (subst (λ k. Does h later vars e.types e.types e.registers k s [] s.goals s.head_types s.head_arguments s) (sym registers)
      (nothing_does h later vars e.types e.registers s m.types_stand m.terms_stand));
  stands = subst (λ c. Standing h vars e2.registers s.in_body σ c s.now.terms) (sym same)
      (subst (λ k. Standing h vars k s.in_body σ a s.now.terms) (sym registers) (subst (λ z. Standing h vars e.registers z σ a s.now.terms) (sym m.before) m.standing));
  same = subst (SameAround a) (sym same) (around_same a);
  is = tt;
  fine = ap (λ q. is_some q && (not (nat_eq (length s.head_types) (head_count h)) || not (equal_types (result_type (head_built h s).type (length s.head_arguments)) o_type))) self;
  predicate = no_predicate h e.registers s self;
}
head_ran h later K vars next σ Γ B a a2 Q s e e2 None (Some t) x m fits self few low = absurd x
head_ran h later K vars next σ Γ B a a2 Q s e e2 (Some p) None x m fits self few low = absurd x
head_ran h later K vars next σ Γ B a a2 Q s e e2 (Some p) (Some t) x m fits self few low =
    let w = x.denotes h later vars s σ Γ m.std m.asked m.types_stand m.terms_stand few low m.before m.no_types m.no_arguments self
    (subst (λ z. Standing h vars e.registers z σ a s.now.terms) (sym m.before) m.standing)
    fits.0 fits.1 m.own (λ l v f le set. absurd (true≢false (sym set ∙ m.unmade l v f le))) (ap (list_any (is_passed (s.place + sum_by length_of x.more))) m.closed) in
    record { state = w.0; does = w.1; stands = w.2; same = w.3; is = (w.4, w.6); fine = w.5; predicate = fits.1 }

-- which variables the code of a head makes
pub head_owns : (K : ℕ → List Ty → Ty) (e e' : Emitter) (a a' : Around) (p : Option RecordHead) (o : Option Term) (x : HeadWritten K e e' a a' p o) →
    AreStarted a → CodeOwns a a' (head_more K e e' a a' p o x).more
unfolding head_more
head_owns K e e' a a' None None (code, types, registers, same) start = subst (λ c. CodeOwns a c []) (sym same) (none_owned a [] refl)
head_owns K e e' a a' None (Some t) x start = absurd x
head_owns K e e' a a' (Some p) None x start = absurd x
head_owns K e e' a a' (Some p) (Some t) x start = x.owns start

-- and no type variables
pub head_more_types : (K : ℕ → List Ty → Ty) (e e' : Emitter) (a a' : Around) (p : Option RecordHead) (o : Option Term)
    (x : HeadWritten K e e' a a' p o) → makes_types (head_more K e e' a a' p o x).more ≡ []
unfolding head_more
head_more_types K e e' a a' None None (code, types, registers, same) = refl
head_more_types K e e' a a' None (Some t) x = absurd x
head_more_types K e e' a a' (Some p) None x = absurd x
head_more_types K e e' a a' (Some p) (Some t) x = x.no_types

-- all variables are set
pub own_all_set : (old new : Emitter) (a b : Around) → OwnMade old new a b → IsShort a → AreStarted a → AreSet b
own_all_set old new a b x short start l v e = go (nat_le b.base l) refl
  where
    go : (t : Bool) → nat_le b.base l ≡ t → v.is_set ≡ true
    go true q = x.set short (l - b.base) v (sym (ap (λ t. if t then slice_get b.own (l - b.base) else b.captured l) q) ∙ e)
    go false q =
        let low : l < a.base = (let z = leb-false b.base l q in let y = x.some.base in omega (arith, z, y)) in
        start l v low (ap (λ t. if t then slice_get a.own (l - a.base) else a.captured l) (lt-leb a.base l low) ∙ sym (x.some.captured l) ∙ sym
        (ap (λ t. if t then slice_get b.own (l - b.base) else b.captured l) q) ∙ e)

neck_same : (h : Home) (s t : State) → t.head_types ≡ s.head_types → t.head_arguments ≡ s.head_arguments → head_built h t ≡ head_built h s →
    breaks_head h s on.Neck ≡ false → breaks_head h t on.Neck ≡ false
neck_same h s t types args built fine =
    (λ i. is_some h.self.head && (not (nat_eq (length (types i)) (head_count h)) || not (equal_types (result_type (built i).type (length (args i))) o_type))) ∙ fine

head_same : (h : Home) (σ : ℕ → Term) (a : Around) (s t : State) (o : Option Term) → t.head_arguments ≡ s.head_arguments → head_built h t ≡ head_built h s → HeadIs h σ a s o → HeadIs h σ a t o
head_same h σ a s t None args built x = tt
head_same h σ a s t (Some u) args built x = ((λ i. apply (built i).term (plain_terms (args i))) ∙ x.0, ap plain_terms args ∙ x.1)

-- all are set: it does not matter whether NECK has passed
standing_set_all : (h : Home) (vars n m : ℕ) (i j : Bool) (σ : ℕ → Term) (a : Around) (xs : List (Option Built)) → n ≡ m → AreSet a → Standing h vars n i σ a xs → Standing h vars m j σ a xs
standing_set_all h vars n m i j σ a xs e set x = record {
  low = λ l v f. subst (λ k. v.register < k) e (x.low l v f);
  set = x.set;
  unset = λ l v f none. absurd (true≢false (sym (set l v f) ∙ none));
  unmade = λ l v f none. absurd (true≢false (sym (set l v f) ∙ none));
  apart = λ l k v w f g none also z. absurd (true≢false (sym (set l v f) ∙ none));
  known = x.known;
  long = subst (λ k. k ≤ length xs) e x.long;
}

-- behind NECK
pub record FrontRan (h : Home) (later : Later) (K : ℕ → List Ty → Ty) (vars types terms next : ℕ) (σ : ℕ → Term) (Γ : List Ty) (B : List Bool)
    (a b : Around) (Q : ℕ → Type 0) (s : State) (is : List Instr) (o : Option Term) : Type 0 where
  pub state : State
  pub runs : (rest : List Instr) → run h later s (is ++ rest) ≡ run h later state rest
  pub around : IsAround h K vars types terms next σ Γ B b Q state
  pub nothing_said : state.goals ≡ no_goals
  pub closed : state.frames ≡ []
  pub head_is : HeadIs h σ a state o
  pub predicate : PredicateStands h.self.head terms state
  pub same : SameAround a b
  -- before NECK
  pub front : List Instr
  pub front_is : is ≡ front ++ on.Neck ∷ []
  pub before : State
  pub runs_before : (rest : List Instr) → run h later s (front ++ rest) ≡ run h later before rest
  pub in_head : before.in_body ≡ false
  pub same_arguments : state.head_arguments ≡ before.head_arguments
  pub place_grows : s.place ≤ before.place

front_code : (h : Home) (xs ys zs rest : List Instr) → (xs ++ (ys ++ zs)) ++ rest ≡ xs ++ (ys ++ (zs ++ rest))
front_code h xs ys zs rest = append_assoc xs (ys ++ zs) rest ∙ ap (λ l. xs ++ l) (append_assoc ys zs rest)

pub front_ran : (h : Home) (later : Later) (K : ℕ → List Ty → Ty) (vars next : ℕ) (σ : ℕ → Term) (Γ : List Ty) (B : List Bool) (a a2 a3 : Around)
    (Q : ℕ → Type 0) (s : State) (e e2 e3 e4 : Emitter) (p : Option RecordHead)
    (o : Option Term) → (x : HeadWritten K e e2 a a2 p o) → (y : OwnMade e2 e3 a2 a3) → (z : NeckPut e3 e4) → MayRun h K vars e.types e.registers next
    σ Γ B a Q s → HeadFits h vars e.registers Γ a s o → h.self.head ≡ p →
    e4.types ≤ h.self.types → e4.registers ≤ h.self.registers →
    FrontRan h later K vars e4.types e4.registers next σ Γ B a a3 Q s ((head_more K e e2 a a2 p o x).more ++ (y.some.made.more ++ z.more)) o
front_ran h later K vars next σ Γ B a a2 a3 Q s e e2 e3 e4 p o x y z m fits self few low =
    let types3 = z.types_stay in
    let terms3 = z.registers_stay in
    let terms2 = y.some.made.registers_stay in
    let types2 = y.some.made.types_grow in
    let hm = head_more K e e2 a a2 p o x in
    let grow = hm.terms_grow in
    let w = head_ran h later K vars next σ Γ B a a2 Q s e e2 p o x m fits self (omega (arith, few, types3, types2)) (omega (arith, low, terms3, terms2)) in
    let u = w.state in
    let closed_u : u.frames ≡ [] = w.does.frames_stay ∙ m.closed in
    let v = y.some.made.denotes h later vars u σ w.does.types_stand w.does.terms_stand (omega (arith, few, types3)) (omega (arith, low, terms3, terms2))
    (subst (λ t. Standing h vars e2.registers t σ a2 u.now.terms) (sym w.does.in_body_stays) w.stands) (ap (list_any (is_passed (u.place + sum_by length_of y.some.made.more))) closed_u) in
    let g : Goes h later vars e2.types e3.types e2.registers e2.registers u y.some.made.more v.0 = v.1 in
    let closed_v : v.0.frames ≡ [] = g.same.frames ∙ closed_u in
    let predicate_u = predicate_on e.registers e2.registers s u h.self.head grow w.does.terms_keep w.predicate in
    let built_v : head_built h v.0 ≡ head_built h u = built_same h e2.registers u v.0 h.self.head predicate_u g.same.head_types g.terms_keep in
    let before : v.0.in_body ≡ false = g.same.in_body ∙ w.does.in_body_stays ∙ m.before in
    let fine_v = neck_same h u v.0 g.same.head_types g.same.head_arguments built_v w.fine in
    let te_v : TermsStand h e3.registers v.0 = subst (λ k. TermsStand h k v.0) (sym terms2) g.terms_stand in
    let n = z.denotes h later vars v.0 g.types_stand te_v before fine_v (ap (list_any (is_passed (v.0.place + 1))) closed_v) in
    let t = behind_head v.0 in
    let start2 = let c = head_owns K e e2 a a2 p o x m.started in started_on a a2 c.same c.stays m.started in
    let same2 = w.same in
    let short2 : IsShort a2 = (let i = same2.base in let j = same2.count in let k = m.short in omega (arith, i, j, k)) in
    let set3 = own_all_set e2 e3 a2 a3 y short2 start2 in
    let same3 : SameAround a a3 = around_then a a2 a3 same2 v.3 in
    let predicate_v = predicate_on e2.registers e4.registers u v.0 h.self.head (omega (arith, terms2, terms3)) g.terms_keep predicate_u in
    let built_t : head_built h t ≡ head_built h v.0 = built_same h e4.registers v.0 t h.self.head predicate_v refl (λ r b l f. f) in
    record {
      state = t;
      runs = λ rest. ap (run h later s) (front_code h hm.more y.some.made.more z.more rest) ∙ w.does.runs (y.some.made.more ++ (z.more ++ rest)) ∙ g.runs (z.more ++ rest) ∙ n.0 rest;
      around = record {
        std = m.std;
        asked = m.asked;
        types_stand = n.1;
        terms_stand = n.2;
        body = refl;
        standing = standing_set_all h vars e2.registers e4.registers u.in_body true σ a3 v.0.now.terms (sym (terms3 ∙ terms2)) set3 v.2;
        set = set3;
        short = let i = same3.base in let j = same3.count in let k = m.short in omega (arith, i, j, k);
        known = m.known;
        seen = λ i q. seen_same a a3 Γ i same3 (m.seen i q);
        free = λ i l r d le f. m.free i l r d (omega (arith, le, grow, terms2, terms3)) (sym (level_same a a3 i same3) ∙ f);
        below = subst (AreBelow next h) (sym (g.same.assumed ∙ w.does.assumed_stay)) m.below;
        alls = λ i l is f. m.alls i l is (sym (level_same a a3 i same3) ∙ f);
        outer = λ i l f. m.outer i l (sym (level_same a a3 i same3) ∙ f);
      };
      nothing_said = g.same.goals ∙ w.does.goals_are ∙ m.nothing_said;
      closed = closed_v;
      head_is = head_same h σ a v.0 t o refl built_t (head_same h σ a u v.0 o g.same.head_arguments built_v w.is);
      predicate = predicate_on e4.registers e4.registers v.0 t h.self.head (omega arith) (λ r b l f. f) predicate_v;
      same = same3;
      front = hm.more ++ y.some.made.more;
      front_is = sym (append_assoc hm.more y.some.made.more z.more) ∙ ap (λ l. (hm.more ++ y.some.made.more) ++ l) z.is_neck;
      before = v.0;
      runs_before = λ rest. ap (run h later s) (append_assoc hm.more y.some.made.more rest) ∙ w.does.runs (y.some.made.more ++ rest) ∙ g.runs rest;
      in_head = before;
      same_arguments = refl;
      place_grows = let i = w.does.place_is in let j = g.place_is in omega (arith, i, j);
    }

-- the record as a whole
pub record RecordRan (h : Home) (later : Later) (σ : ℕ → Term) (a : Around) (s : State) (is : List Instr) (o : Option Term) (gs : Goals) : Type 0 where
  pub state : State
  pub runs : run h later s is ≡ Done state
  pub said : bare_goals state.goals ≡ said_goals σ a 0 gs
  pub head_is : HeadIs h σ a state o
  pub own : (l : ℕ) (v : Seen) → at_level a l ≡ Some v → held state.now.terms v.register ≡ Some (whole (σ l) v.of)

pub record_ran : (P : Around → (records levels : List ℕ) → Clauses → Type 0) (h : Home) (later : Later) (K : ℕ → List Ty → Ty) (vars next next' : ℕ)
    (σ : ℕ → Term) (Γ : List Ty) (B : List Bool) (a b : Around) (Q : ℕ → Type 0)
    (types types' terms terms' : ℕ) (s : State) (front is : List Instr) (o : Option Term) (gs : Goals) → FrontRan h later K vars types terms next σ Γ B a b Q s front o →
    GoalsCode P K vars b types types' terms terms' next next' (plain_goals gs) is →
    ((c : Around) (ns ls : List ℕ) (cs : Clauses) → P c ns ls cs → AreLater h vars (length ls) ns) → TellClauses h later vars P →
    slice_get h.records h.number ≡ Some h.self → IsInside h is → GoalsFit h vars Γ B Q gs → types' ≤ h.self.types → terms' ≤ h.self.registers → goals_depth gs ≤ nesting_limit →
    RecordRan h later σ a s (front ++ (is ++ on.Proceed ∷ [])) o gs
record_ran P h later K vars next next' σ Γ B a b Q types types' terms terms' s front is o gs f code records told self inside fit few low nest =
    let r = body_run P K h later vars records told self types types' terms terms' next next' σ Γ B b Q f.state gs is code inside f.around fit few low nest f.nothing_said f.closed in
    let z = ended_state r.0 r.1 in
    let built : head_built h z ≡ head_built h f.state = built_same h terms f.state z h.self.head f.predicate r.4 r.6 in
    record {
      state = z;
      runs = f.runs (is ++ on.Proceed ∷ []) ∙ r.2;
      said = r.3 ∙ (λ i. map_goals Rattle.std.specs.Prelude.suc (λ d t. variables_same σ a b d t f.same i) same_type 0 (bare_goals gs));
      head_is = head_same h σ a f.state z o r.5 built f.head_is;
      own = λ l v e.
          let w = seen_of (at_level b l) (as_set v) (f.same.variables l ∙ ap (option_map as_set) e) in
          let st = f.around.standing in
          subst (λ (y : Seen). held z.now.terms y.register ≡ Some (whole (σ l) y.of)) w.2 (r.6 (w.0).register (whole (σ l) (w.0).of) (st.low l w.0 w.1) (st.set l w.0 w.1 (f.around.set l w.0 w.1)));
    }
