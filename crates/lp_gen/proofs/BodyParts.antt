-- What goals below a quantifier come to, where a block may end, and which records were assumed so far.
use Rattle.std.proofs.Common.{◌≡◌, ◌∙◌, ◌≤◌, ◌<◌, ℕ, zero, suc, ◌+◌, ◌-◌, List, [], ◌∷◌, ◌++◌, map, length, Bool, true, false, Option, Some, None, ap, refl, sym, subst, arith, true≢false}
use Rattle.std.specs.Prelude.{nat_eq, not, ◌&&◌, ◌||◌, is_none, sum_by, slice_get, unwrap_or}
use Rattle.std.specs.List.{list_any}
use Rattle.std.proofs.lemmas.Bool.{eqb-true, leb-false, le-ltb, lt-ltb, ltb-false}
use Rattle.std.proofs.lemmas.List.{append-nil, map-append, length-append}
use Rattle.std.proofs.lemmas.List.Elements.{All-head, All-tail}
use Rattle.lp_calculus.specs.Types.{Ty, var}
use Rattle.lp_calculus.specs.Typing.{o_type}
use Rattle.lp_calculus.specs.Term.{Term, index, atom, abs, app}
use Rattle.lp_model.specs.Flat.{Goal, Goals, Clauses, Atomic, Cut, Either, Exists, Forall, Assume, Not, no_goals, goals, clause, no_clauses, clauses, under_all, map_goal, map_goals, map_clauses, same_type}
use Rattle.lp_code.specs.declared.instruction.Instr.{Instr}
use Rattle.lp_code.specs.declared.instruction.Instr.TheVariants as on
use Rattle.lp_code.specs.Length.{length_of}
use Rattle.lp_code.specs.Symbolic.{Built, variable, held, whole, types_in, terms_in}
use Rattle.lp_code.specs.States.{Block, under_sigma, under_assumption, under_not, left_side, right_side, Frame, Captured, State, Home, member, bind_term, bind_goals}
use Rattle.lp_code.specs.States as block
use Rattle.lp_code.specs.Steps.{Later, handed}
use Rattle.lp_code.specs.Written.{nothing_written}
use Rattle.lp_code.specs.Rules.{is_passed, side_is_passed, named_before, is_assumed_record, are_fine_names}
use Rattle.lp_code.specs.Denote.{from_zero, is_set_by_all}
use Rattle.lp_gen.specs.Sources.{IsKnownType}
use Rattle.lp_gen.specs.inner.Running.{TypesStand, TermsStand, HasRoom, ends_before, MayEnd, Hold, Leads}
use Rattle.lp_gen.specs.Steps.{Around}
use Rattle.lp_gen.specs.inner.TermLaw.{Standing, KnownAtoms, AllLoose, AreSet}
use Rattle.lp_gen.specs.inner.Bodies.{pushed, new_level, with_level, IsThrough, AreThrough, AllThrough, HasLevel, bare_goal, bare_goals, bare_clauses, said_goals}
use Rattle.lp_gen.specs.inner.GoalCode.{quantified, KindCode, numbers, AreRegisters}
use Rattle.lp_gen.specs.inner.BodyLaw.{one_more, more_of, GoalFits, GoalsFit, ClausesFit, AreBelow, IsAround, StartWith, AreLater, IsInside}
use Rattle.lp_gen.proofs.Denoting.{or_none, may_strict}
use Rattle.lp_gen.proofs.Binding.{bind_goals_with, one_binds}
use Rattle.lp_gen.proofs.EitherSaid.{left_begins, right_begins}
use Rattle.lp_gen.proofs.Pushed.{seen_pushed}

-- what fits may be bound

pub loose_at : (P Q : ℕ → Type 0) (d e f : ℕ) (t : Term) → f ≡ e + d → ((i : ℕ) → Q i → d ≤ i → P (i - d)) → AllLoose Q e t → AllLoose P f t
loose_at P Q d e f (index i) z q x = λ le. let y : i - e - d ≡ i - f = omega (arith, z, le) in subst P y (q (i - e) (x (omega (arith, z, le))) (omega (arith, z, le)))
loose_at P Q d e f (atom s) z q x = tt
loose_at P Q d e f (abs b) z q x = loose_at P Q d (suc e) (suc f) b (omega (arith, z)) q x
loose_at P Q d e f (app t u) z q x = (loose_at P Q d e f t z q x.0, loose_at P Q d e f u z q x.1)

more_at : (P Q : ℕ → Type 0) (d : ℕ) → ((i : ℕ) → Q i → d ≤ i → P (i - d)) → (i : ℕ) → one_more Q i → suc d ≤ i → P (i - suc d)
more_at P Q d q zero x le = absurd (omega (arith, le))
more_at P Q d q (suc i) x le = let y : i - d ≡ suc i - suc d = omega arith in subst P y (q i x (omega (arith, le)))

all_at : (P Q : ℕ → Type 0) (vs : List Ty) (d : ℕ) → ((i : ℕ) → Q i → d ≤ i → P (i - d)) → (i : ℕ) → more_of vs Q i → under_all suc vs d ≤ i → P (i - under_all suc vs d)
all_at P Q [] d q i x le = q i x le
all_at P Q (T ∷ Ts) d q i x le = more_at P (more_of Ts Q) (under_all suc Ts d) (all_at P Q Ts d q) i x le

abbrev Bindable : Home → (vars : ℕ) → (ℕ → Type 0) → ℕ → Term → Type 0
Bindable h vars P d t = KnownAtoms h.tables.kinds vars t × AllLoose P d t

module _ (h : Home) (vars : ℕ) (P : ℕ → Type 0) where
  mutual
    goal_through : (Q : ℕ → Type 0) (Γ : List Ty) (B : List Bool) (d : ℕ) (g : Goal) → ((i : ℕ) → Q i → d ≤ i → P (i - d)) → GoalFits h vars Γ B Q g → IsThrough (Bindable h vars P) d g
    goal_through Q Γ B d (Atomic t) q x = (x.known, loose_at P Q d 0 d t (omega arith) q x.loose)
    goal_through Q Γ B d Cut q x = tt
    goal_through Q Γ B d (Either gs hs) q x = (goals_through Q Γ B d gs q x.0, goals_through Q Γ B d hs q x.1)
    goal_through Q Γ B d (Exists T gs) q x = goals_through (one_more Q) (T ∷ Γ) (false ∷ B) (suc d) gs (more_at P Q d q) x.1
    goal_through Q Γ B d (Forall T gs) q x = goals_through (one_more Q) (T ∷ Γ) (true ∷ B) (suc d) gs (more_at P Q d q) x.1
    goal_through Q Γ B d (Assume w cs gs) q x = (clauses_through Q Γ B d cs q x.0, goals_through Q Γ B d gs q x.1)
    goal_through Q Γ B d (Not w gs) q x = goals_through Q Γ B d gs q x

    pub goals_through : (Q : ℕ → Type 0) (Γ : List Ty) (B : List Bool) (d : ℕ) (gs : Goals) → ((i : ℕ) → Q i → d ≤ i → P (i - d)) → GoalsFit h vars Γ B Q gs → AreThrough (Bindable h vars P) d gs
    goals_through Q Γ B d no_goals q x = tt
    goals_through Q Γ B d (goals g gs) q x = (goal_through Q Γ B d g q x.0, goals_through Q Γ B d gs q x.1)

    clauses_through : (Q : ℕ → Type 0) (Γ : List Ty) (B : List Bool) (d : ℕ) (cs : Clauses) → ((i : ℕ) → Q i → d ≤ i → P (i - d)) → ClausesFit h vars Γ B Q cs → AllThrough (Bindable h vars P) d cs
    clauses_through Q Γ B d no_clauses q x = tt
    clauses_through Q Γ B d (clauses (clause n vs t gs) cs) q (none, known, head, body, ends, others) =
        let e = under_all suc vs d in (
          (head.known, loose_at P (more_of vs Q) e 0 e t (omega arith) (all_at P Q vs d q) head.loose),
          goals_through (more_of vs Q) (vs ++ Γ) (map (λ T. false) vs ++ B) e gs (all_at P Q vs d q) body,
          clauses_through Q Γ B d cs q others,
        )

-- what is written in goals is left out where they are bound

mutual
  bare_goal_map : (f : ℕ → Term → Term) (d : ℕ) (g : Goal) → bare_goal (map_goal suc f same_type d g) ≡ map_goal suc f same_type d (bare_goal g)
  bare_goal_map f d (Atomic t) = refl
  bare_goal_map f d Cut = refl
  bare_goal_map f d (Either gs hs) = λ i. Either (bare_map f d gs i) (bare_map f d hs i)
  bare_goal_map f d (Exists T gs) = ap (Exists T) (bare_map f (suc d) gs)
  bare_goal_map f d (Forall T gs) = ap (Forall T) (bare_map f (suc d) gs)
  bare_goal_map f d (Assume w cs gs) = λ i. Assume nothing_written (bare_clauses_map f d cs i) (bare_map f d gs i)
  bare_goal_map f d (Not w gs) = ap (Not nothing_written) (bare_map f d gs)

  pub bare_map : (f : ℕ → Term → Term) (d : ℕ) (gs : Goals) → bare_goals (map_goals suc f same_type d gs) ≡ map_goals suc f same_type d (bare_goals gs)
  bare_map f d no_goals = refl
  bare_map f d (goals g gs) = λ i. goals (bare_goal_map f d g i) (bare_map f d gs i)

  bare_clauses_map : (f : ℕ → Term → Term) (d : ℕ) (cs : Clauses) → bare_clauses (map_clauses suc f same_type d cs) ≡ map_clauses suc f same_type d (bare_clauses cs)
  bare_clauses_map f d no_clauses = refl
  bare_clauses_map f d (clauses (clause n vs t gs) cs) = λ i. clauses (clause n (map same_type vs) (f (under_all suc vs d) t) (bare_map f (under_all suc vs d) gs i)) (bare_clauses_map f d cs i)

-- goals below a quantifier, whose variable is bound again
pub bound_again : (h : Home) (K : ℕ → List Ty → Ty) (vars n k q : ℕ) (σ : ℕ → Term) (Γ : List Ty) (B : List Bool) (c : Bool) (a : Around) (Q : ℕ → Type 0) (s : State) (T : Ty) (gs said : Goals) →
    IsAround h K vars n k q σ Γ B a Q s → GoalsFit h vars (T ∷ Γ) (c ∷ B) (one_more Q) gs →
    bare_goals said ≡ said_goals (with_level σ (new_level a) (variable k h.number)) (pushed a (quantified k T)) 0 gs → bare_goals (bind_goals (k ∷ []) h.number said) ≡ said_goals σ a 1 gs
bound_again h K vars n k q σ Γ B c a Q s T gs said x fit e =
    let b = pushed a (quantified k T) in
    bare_map (bind_term (k ∷ []) h.number) 0 said ∙ ap (bind_goals (k ∷ []) h.number) e
    ∙ bind_goals_with h.tables.kinds vars h.number 1 (k ∷ []) (with_level σ (new_level a) (variable k h.number)) σ b a
    (one_binds h.number k σ a (quantified k T) x.short (λ i l d e. x.free i l k d (omega arith) e)) 0 1 gs refl
    (goals_through h vars (HasLevel b) (one_more Q) (T ∷ Γ) (c ∷ B) 0 gs (λ i q le.
    let w = seen_pushed k a Γ T Q x.short x.seen i q in
    let z : i ≡ i - 0 = omega arith in
    subst (HasLevel b) z (w.0, w.2)) fit)

-- room in blocks

room_may : (n : ℕ) (fs : List Frame) → list_any (is_passed n) fs ≡ false → list_any (λ (f : Frame). ends_before n f.block) fs ≡ false
room_may n [] e = refl
room_may n (f ∷ fs) e =
    or_none (ends_before n f.block) (list_any (λ (f : Frame). ends_before n f.block) fs) (side n f.block (or_left (side_is_passed n f.block) (list_any (is_passed n) fs) e))
    (room_may n fs (or_right (side_is_passed n f.block) (list_any (is_passed n) fs) e))
  where
    or_left : (c d : Bool) → (c || d) ≡ false → c ≡ false
    or_left true d e = absurd (true≢false e)
    or_left false d e = refl

    or_right : (c d : Bool) → (c || d) ≡ false → d ≡ false
    or_right true d e = absurd (true≢false e)
    or_right false d e = e

    side : (n : ℕ) (b : Block) → side_is_passed n b ≡ false → ends_before n b ≡ false
    side n (left_side m) e = let l = leb-false m n e in le-ltb m n (omega (arith, l))
    side n (right_side m gs) e = let l = leb-false m n e in le-ltb m n (omega (arith, l))
    side n b e = refl

pub may_less : (n m : ℕ) (fs : List Frame) → n < m → list_any (λ (f : Frame). ends_before m f.block) fs ≡ false → list_any (λ (f : Frame). ends_before n f.block) fs ≡ false
may_less n m fs l e = room_may n fs (may_strict n m fs l e)

-- a block is open in a state, and none of its sides ends with the code behind it
pub may_in : (n : ℕ) (F : Frame) (s t : State) → t.frames ≡ F ∷ s.frames → ends_before n F.block ≡ false → list_any (λ (f : Frame). ends_before n f.block) s.frames ≡ false → MayEnd t n
may_in n F s t e side room =
    subst (λ fs. list_any (λ (f : Frame). ends_before n f.block) fs ≡ false) (sym e) (or_none (ends_before n F.block) (list_any (λ (f : Frame). ends_before n f.block) s.frames) side room)

-- a right side may end at an offset, and so at those before it
pub may_le : (n m : ℕ) (fs : List Frame) → n ≤ m → list_any (λ (f : Frame). ends_before m f.block) fs ≡ false → list_any (λ (f : Frame). ends_before n f.block) fs ≡ false
may_le n m [] l e = refl
may_le n m (f ∷ fs) l e =
    or_none (ends_before n f.block) (list_any (λ (f : Frame). ends_before n f.block) fs) (side f.block (left_of (ends_before m f.block) (list_any (λ (f : Frame). ends_before m f.block) fs) e))
    (may_le n m fs l (right_of (ends_before m f.block) (list_any (λ (f : Frame). ends_before m f.block) fs) e))
  where
    left_of : (c d : Bool) → (c || d) ≡ false → c ≡ false
    left_of true d e = absurd (true≢false e)
    left_of false d e = refl

    right_of : (c d : Bool) → (c || d) ≡ false → d ≡ false
    right_of true d e = absurd (true≢false e)
    right_of false d e = e

    side : (b : Block) → ends_before m b ≡ false → ends_before n b ≡ false
    side (under_sigma r T) e = refl
    side (block.under_all r T) e = refl
    side (under_assumption cs) e = refl
    side under_not e = refl
    side (left_side q) e = let z = ltb-false q m e in le-ltb q n (omega (arith, z, l))
    side (right_side q gs) e = let z = ltb-false q m e in le-ltb q n (omega (arith, z, l))

-- the code of a type leads to it
pub kind_leads : (h : Home) (later : Later) (vars n m q : ℕ) (T : Ty) (is : List Instr) (s : State) → KindCode n m q T is → TypesStand h vars n s → m
    ≤ h.self.types → IsKnownType h.tables.kinds vars T →
    HasRoom s (s.place + sum_by length_of is) → (t : State) × Leads h later vars n m s is t × Hold t q T
kind_leads h later vars n m q T is s x st few known room =
    let a = x.after in
    let w = x.put.denotes h later vars s (subst (λ z. TypesStand h vars z s) (sym x.before) st) (omega (arith, few, a)) known
    (subst (λ l. HasRoom s (s.place + sum_by length_of l)) x.code_is room) in (
      w.0,
      subst (λ l. Leads h later vars n m s l w.0) (sym x.code_is) (subst (λ z. Leads h later vars n z s x.put.more w.0) x.after
          (subst (λ z. Leads h later vars z x.new.types s x.put.more w.0) x.before w.1)),
      w.2,
    )

-- the beginnings of both sides

pub left_stands : (h : Home) (vars n k nl : ℕ) (s : State) → TypesStand h vars n s → TermsStand h k s → TypesStand h vars n (left_begins s nl) × TermsStand h k (left_begins s nl)
left_stands h vars n k nl s st te = (
  record {
    few = st.few;
    own = st.own;
    as_many = st.as_many;
    stand = st.stand;
    unset = λ r q. ap (member r) (append-nil s.types_set) ∙ st.unset r q;
    sound = λ z r. let q = eqb-true (s.place + 5) 0 z in absurd (omega (arith, q));
  },
  record {
    as_many = te.as_many;
    unset = λ r q. ap (member r) (append-nil s.terms_set) ∙ te.unset r q;
    fresh = λ z r q. ap (member r) (append-nil s.terms_set) ∙ te.fresh z r q;
  },
)

pub right_stands : (h : Home) (vars n m k l mr : ℕ) (s u : State) (gl : Goals) → u.in_body ≡ true → TypesStand h vars n s → TermsStand h k s → TypesStand h vars m u → TermsStand h l u →
    TypesStand h vars m (right_begins s u mr gl) × TermsStand h l (right_begins s u mr gl)
right_stands h vars n m k l mr s u gl body st te su ue = (
  record {
    few = st.few;
    own = su.own;
    as_many = st.as_many;
    stand = st.stand;
    unset = λ r q. ap (member r) (append-nil u.types_set) ∙ su.unset r q;
    sound = λ z r. let q = eqb-true (u.place + 5) 0 z in absurd (omega (arith, q));
  },
  record {
    as_many = te.as_many;
    unset = λ r q. ap (member r) (append-nil u.terms_set) ∙ ue.unset r q;
    fresh = λ z r q. absurd (true≢false (sym body ∙ z));
  },
)

-- records that were assumed so far

abbrev pub AreNames : ℕ → List (ℕ × Captured) → Type 0
AreNames q l = (m : ℕ) → member m (map (λ (a : ℕ × Captured). a.0) l) ≡ true → m < q

or_cases : (X : Type 0) (c d : Bool) → (c || d) ≡ true → (c ≡ true → X) → (d ≡ true → X) → X
or_cases X true d e f g = f refl
or_cases X false d e f g = g e

member_both : (X : Type 0) (m : ℕ) (xs ys : List ℕ) → member m (xs ++ ys) ≡ true → (member m xs ≡ true → X) → (member m ys ≡ true → X) → X
member_both X m [] ys e f g = g e
member_both X m (x ∷ xs) ys e f g =
    or_cases X (nat_eq m x) (member m (xs ++ ys)) e (λ q. f (or_first (nat_eq m x) (member m xs) q)) (λ q. member_both X m xs ys q (λ p. f (or_second (nat_eq m x) (member m xs) p)) g)
  where
    or_first : (c d : Bool) → c ≡ true → (c || d) ≡ true
    or_first true d e = refl
    or_first false d e = absurd (true≢false (sym e))

    or_second : (c d : Bool) → d ≡ true → (c || d) ≡ true
    or_second true d e = refl
    or_second false d e = e

names_more : (l m : List (ℕ × Captured)) → map (λ (a : ℕ × Captured). a.0) (l ++ m) ≡ map (λ (a : ℕ × Captured). a.0) l ++ map (λ (a : ℕ × Captured). a.0) m
names_more l m = map-append (λ (a : ℕ × Captured). a.0) l m

pub names_both : (q : ℕ) (l m : List (ℕ × Captured)) → AreNames q l → AreNames q m → AreNames q (l ++ m)
names_both q l m x y n e =
    member_both (n < q) n (map (λ (a : ℕ × Captured). a.0) l) (map (λ (a : ℕ × Captured). a.0) m) (sym (ap (member n) (names_more l m)) ∙ e) (x n) (y n)

pub names_less : (q r : ℕ) (l : List (ℕ × Captured)) → q ≤ r → AreNames q l → AreNames r l
names_less q r l le x n e = let z = x n e in omega (arith, z, le)

pub no_names : (q : ℕ) → AreNames q []
no_names q n e = absurd (true≢false (sym e))

pub below_more : (q r : ℕ) (h : Home) (l m now : List (ℕ × Captured)) → AreBelow q h l → AreNames r m → q ≤ r → now ≡ l ++ m → AreBelow r h now
below_more q r h l m now x y le e n f =
    let named = named_before h.number h.records in
    let here = ap (member n) (ap (λ z. named ++ map (λ (a : ℕ × Captured). a.0) z) e ∙ ap (λ z. named ++ z) (names_more l m)
    ∙ sym (Rattle.std.proofs.Common.append_assoc named (map (λ (a : ℕ × Captured). a.0) l) (map (λ (a : ℕ × Captured). a.0) m))) in
    member_both (n < r) n (named ++ map (λ (a : ℕ × Captured). a.0) l) (map (λ (a : ℕ × Captured). a.0) m) (sym here ∙ f) (λ p. let z = x n p in omega (arith, z, le)) (y n)

pub below_same : (q r : ℕ) (h : Home) (l now : List (ℕ × Captured)) → AreBelow q h l → q ≤ r → now ≡ l → AreBelow r h now
below_same q r h l now x le e = subst (AreBelow r h) (sym e) (λ n f. let z = x n f in omega (arith, z, le))

handed_names : (ns : List ℕ) (c : Captured) → map (λ (a : ℕ × Captured). a.0) (handed ns c) ≡ ns
handed_names [] c = refl
handed_names (n ∷ ns) c = ap (λ l. n ∷ l) (handed_names ns c)

number_low : (m q c : ℕ) → member m (numbers q c) ≡ true → m < q + c
number_low m q zero e = absurd (true≢false (sym e))
number_low m q (suc c) e =
    or_cases (m < q + suc c) (nat_eq m q) (member m (numbers (suc q) c)) e (λ f. let z = eqb-true m q f in omega (arith, z)) (λ f. let z = number_low m (suc q) c f in omega (arith, z))

pub handed_low : (ns : List ℕ) (c : Captured) (q k : ℕ) → ns ≡ numbers q k → AreNames (q + k) (handed ns c)
handed_low ns c q k e m f = number_low m q k (sym (ap (member m) (handed_names ns c ∙ e)) ∙ f)

-- the numbers that an assumption names are fine

not_member : (n : ℕ) (named : List ℕ) → ((m : ℕ) → member m named ≡ true → m < n) → not (member n named) ≡ true
not_member n named low = go (member n named) refl
  where
    go : (b : Bool) → member n named ≡ b → not b ≡ true
    go true e = let z = low n e in absurd (omega (arith, z))
    go false e = refl

fine_numbers : (h : Home) (v k c q : ℕ) (named : List ℕ) → ((m : ℕ) → member m named ≡ true → m < q) → AreLater h v k (numbers q c) → are_fine_names h named v k (numbers q c) ≡ true
fine_numbers h v k zero q named low x = refl
fine_numbers h v k (suc c) q named low x =
    let first = All-head (λ n. (h.number < n) × (is_assumed_record (slice_get h.records n) v k ≡ true)) q (numbers (suc q) c) x in
    let others = All-tail (λ n. (h.number < n) × (is_assumed_record (slice_get h.records n) v k ≡ true)) q (numbers (suc q) c) x in
    let rest = fine_numbers h v k c (suc q) (q ∷ named) (λ m e. or_cases (m < suc q) (nat_eq m q) (member m named) e
    (λ f. let z = eqb-true m q f in omega (arith, z)) (λ f. let z = low m f in omega (arith, z))) others in
    λ i. (lt-ltb h.number q first.0 i && first.1 i && not_member q named low i && rest i)

pub fine_names : (h : Home) (v k q : ℕ) (ns named : List ℕ) → ((m : ℕ) → member m named ≡ true → m < q) → ns ≡ numbers q (length ns) → AreLater h v k ns → are_fine_names h named v k ns ≡ true
fine_names h v k q ns named low e x = ap (are_fine_names h named v k) e ∙ fine_numbers h v k (length ns) q named low (subst (AreLater h v k) e x)

-- what an assumed record starts with

zero_length : (n : ℕ) → length (from_zero n) ≡ n
zero_length zero = refl
zero_length (suc n) = let z = length-append (from_zero n) (n ∷ []) in let y = zero_length n in omega (arith, z, y)

any_more : {A : Type 0} (f : A → Bool) (xs : List A) (y : A) → list_any f xs ≡ false → f y ≡ false → list_any f (xs ++ y ∷ []) ≡ false
any_more f [] y e g = or_none (f y) false g refl
any_more f (x ∷ xs) y e g = or_none (f x) (list_any f (xs ++ y ∷ [])) (left_of (f x) (list_any f xs) e) (any_more f xs y (right_of (f x) (list_any f xs) e) g)
  where
    left_of : (c d : Bool) → (c || d) ≡ false → c ≡ false
    left_of true d e = absurd (true≢false e)
    left_of false d e = refl

    right_of : (c d : Bool) → (c || d) ≡ false → d ≡ false
    right_of true d e = absurd (true≢false e)
    right_of false d e = e

pub types_zero : (h : Home) (vars n m : ℕ) (s : State) → TypesStand h vars n s → m ≤ vars → types_in s.now (from_zero m) ≡ map var (from_zero m)
types_zero h vars n zero s st le = refl
types_zero h vars n (suc m) s st le =
    map-append (λ t. unwrap_or (held s.now.types t) o_type) (from_zero m) (m ∷ [])
    ∙ (λ i. types_zero h vars n m s st (omega (arith, le)) i ++ unwrap_or (st.stand m (omega (arith, le)) i) o_type ∷ []) ∙ sym (map-append var (from_zero m) (m ∷ []))

pub zero_set : (h : Home) (vars n m : ℕ) (s : State) → TypesStand h vars n s → m ≤ vars → list_any (λ t. is_none (held s.now.types t)) (from_zero m) ≡ false
zero_set h vars n zero s st le = refl
zero_set h vars n (suc m) s st le =
    any_more (λ t. is_none (held s.now.types t)) (from_zero m) m (zero_set h vars n m s st (omega (arith, le))) (ap is_none (st.stand m (omega (arith, le))))

pub registers_length : (a : Around) (ls rs : List ℕ) → AreRegisters a ls rs → length rs ≡ length ls
registers_length a [] [] x = refl
registers_length a [] (r ∷ rs) x = absurd x
registers_length a (l ∷ ls) [] x = absurd x
registers_length a (l ∷ ls) (r ∷ rs) (v, at, is, more) = ap suc (registers_length a ls rs more)

pub start_with : (h : Home) (vars n : ℕ) (b : Bool) (σ : ℕ → Term) (a : Around) (s : State) (ls rs : List ℕ) → Standing h vars n b σ a s.now.terms → AreSet a → AreRegisters a ls rs →
    StartWith σ a ls (terms_in s.now rs) × (list_any (λ r. is_none (held s.now.terms r)) rs ≡ false)
start_with h vars n b σ a s [] [] x set are = (tt, refl)
start_with h vars n b σ a s [] (r ∷ rs) x set are = absurd are
start_with h vars n b σ a s (l ∷ ls) [] x set are = absurd are
start_with h vars n b σ a s (l ∷ ls) (r ∷ rs) x set (v, at, is, more) =
    let others = start_with h vars n b σ a s ls rs x set more in
    let here : held s.now.terms r ≡ Some (whole (σ l) v.of) = ap (held s.now.terms) (sym is) ∙ x.set l v at (set l v at) in
    let default : Built = record { term = index 0; type = o_type; loose = [] } in
    ((v, at, ap (λ o. unwrap_or o default) here, others.0), or_none (is_none (held s.now.terms r)) (list_any (λ r. is_none (held s.now.terms r)) rs) (ap is_none here) others.1)

pub zero_is : (v : ℕ) (ts : List ℕ) → ts ≡ from_zero v → length ts ≡ v
zero_is v ts e = ap length e ∙ zero_length v

-- variables of `pi` that code makes

abbrev is_all : Instr → ℕ → Bool
is_all (on.All d t) r = nat_eq d r
is_all i r = false

first_all : (i : Instr) (is : List Instr) (r : ℕ) → is_set_by_all (i ∷ is) r ≡ (is_all i r || is_set_by_all is r)
first_all (on.Jump m) is x = refl
first_all (on.TyCon d k ts) is x = refl
first_all (on.TyArr d a b) is x = refl
first_all (on.TyNew d) is x = refl
first_all (on.New d t) is x = refl
first_all (on.PutConst d c ts) is x = refl
first_all (on.PutInt d z) is x = refl
first_all (on.PutStr d s) is x = refl
first_all (on.PutIndex d i t) is x = refl
first_all (on.PutAbs d s t) is x = refl
first_all (on.PutApp d s rs) is x = refl
first_all (on.GetType j t) is x = refl
first_all (on.GetVar i d) is x = refl
first_all (on.Get i s) is x = refl
first_all (on.GetConst i c ts) is x = refl
first_all (on.GetInt i z) is x = refl
first_all (on.GetStr i s) is x = refl
first_all on.Neck is x = refl
first_all (on.Call c ts rs) is x = refl
first_all (on.CallTerm s) is x = refl
first_all (on.Equal t l r) is x = refl
first_all (on.Is t l r) is x = refl
first_all (on.Less l r) is x = refl
first_all (on.Greater l r) is x = refl
first_all (on.AtMost l r) is x = refl
first_all (on.AtLeast l r) is x = refl
first_all on.Cut is x = refl
first_all (on.Sigma d t) is x = refl
first_all (on.All d t) is x = refl
first_all on.EndAll is x = refl
first_all (on.Assume ns ts rs) is x = refl
first_all on.EndAssume is x = refl
first_all (on.Either k) is x = refl
first_all on.Proceed is x = refl
first_all on.Not is x = refl
first_all on.EndNot is x = refl

pub set_left : (xs ys : List Instr) (r : ℕ) → is_set_by_all xs r ≡ true → is_set_by_all (xs ++ ys) r ≡ true
set_left [] ys r e = absurd (true≢false (sym e))
set_left (x ∷ xs) ys r e =
    first_all x (xs ++ ys) r ∙ or_cases ((is_all x r || is_set_by_all (xs ++ ys) r) ≡ true) (is_all x r) (is_set_by_all xs r) (sym (first_all x xs r) ∙ e)
    (λ f. ap (λ t. t || is_set_by_all (xs ++ ys) r) f) (λ f. or_true (is_all x r) (is_set_by_all (xs ++ ys) r) (set_left xs ys r f))
  where
    or_true : (c d : Bool) → d ≡ true → (c || d) ≡ true
    or_true true d e = refl
    or_true false d e = e

pub set_right : (xs ys : List Instr) (r : ℕ) → is_set_by_all ys r ≡ true → is_set_by_all (xs ++ ys) r ≡ true
set_right [] ys r e = e
set_right (x ∷ xs) ys r e = first_all x (xs ++ ys) r ∙ or_true (is_all x r) (is_set_by_all (xs ++ ys) r) (set_right xs ys r e)
  where
    or_true : (c d : Bool) → d ≡ true → (c || d) ≡ true
    or_true true d e = refl
    or_true false d e = e

pub inside_left : (h : Home) (xs ys : List Instr) → IsInside h (xs ++ ys) → IsInside h xs
inside_left h xs ys x r e = x r (set_left xs ys r e)

pub inside_right : (h : Home) (xs ys : List Instr) → IsInside h (xs ++ ys) → IsInside h ys
inside_right h xs ys x r e = x r (set_right xs ys r e)
