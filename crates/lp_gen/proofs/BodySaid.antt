-- The law of bodies: the code of goals, by their form, says them.
use Rattle.std.proofs.Common.{◌≡◌, ◌∙◌, ◌≤◌, ◌<◌, ℕ, zero, suc, ◌+◌, ◌-◌, List, [], ◌∷◌, ◌++◌, map, length, Bool, true, false, Option, Some, None, ap, refl, sym, subst, arith}
use Rattle.std.specs.Prelude.{nat_lt, ◌||◌, sum_by, slice_get}
use Rattle.std.specs.List.{list_any}
use Rattle.std.proofs.lemmas.Bool.{le-ltb, eq-eqb}
use Rattle.std.proofs.lemmas.List.{append-nil}
use Rattle.std.proofs.lemmas.List.Sums.{sum_by-append}
use Rattle.lp_calculus.specs.Types.{Ty, var}
use Rattle.lp_calculus.specs.Term.{Term}
use Rattle.lp_model.specs.Flat.{Goal, Goals, Clauses, Atomic, Cut, Either, Exists, Forall, Assume, Not, no_goals, goals}
use Rattle.lp_code.specs.declared.instruction.Instr.{Instr}
use Rattle.lp_code.specs.declared.instruction.Instr.TheVariants as on
use Rattle.lp_code.specs.Length.{length_of}
use Rattle.lp_code.specs.Symbolic.{Built, variable, held, whole}
use Rattle.lp_code.specs.States.{under_sigma, under_all, under_not, under_assumption, Frame, Captured, State, Home, with_goal, depth, bind_goals}
use Rattle.lp_code.specs.Steps.{Later, clauses_of_records, captured_by, handed}
use Rattle.lp_code.specs.Written.{nothing_written}
use Rattle.lp_code.specs.Rules.{nesting_limit}
use Rattle.lp_code.specs.Denote.{from_zero}
use Rattle.lp_gen.specs.Sources.{IsKnownType, goal_depth, goals_depth, clauses_depth, ends_list}
use Rattle.lp_gen.specs.inner.Running.{TypesStand, TermsStand, ends_before, MayEnd, Hold, Leads}
use Rattle.lp_gen.specs.Steps.{Seen, Around, at_level}
use Rattle.lp_gen.specs.inner.TermLaw.{Standing, IsSeen}
use Rattle.lp_gen.specs.inner.Doing.{Says}
use Rattle.lp_gen.specs.inner.Bodies.{pushed, new_level, IsShort, with_level, bare_goal, bare_goals, bare_clauses, said_goal, said_goals, said_clauses, GoalsSaid, frame_of}
use Rattle.lp_gen.specs.inner.GoalCode.{quantified, AtomCode, GoalCode, GoalsCode}
use Rattle.lp_gen.specs.inner.BodyLaw.{AtomFits, one_more, GoalFits, GoalsFit, ClausesFit, AreAlls, AreOuter, IsAround, StartWith, AreLater, IsInside}
use Rattle.lp_gen.proofs.Denoting.{or_none, may_strict}
use Rattle.lp_gen.proofs.Blocks.{nothing_said, one_said, then_said}
use Rattle.lp_gen.proofs.Quantified.{Inner, cut_said, not_said, all_said, sigma_said, sigma_alone}
use Rattle.lp_gen.proofs.Assumed.{assume_said}
use Rattle.lp_gen.proofs.EitherSaid.{left_begins, right_begins, either_said}
use Rattle.lp_gen.proofs.Pushed.{around_pushed, around_kept}
use Rattle.lp_gen.proofs.Sides.{first_bytes}
use Rattle.lp_gen.proofs.GoalsGrow.{kind_grows, goal_grows, goals_grow, goal_some, goals_some}
use Rattle.lp_gen.proofs.BodyParts.{loose_at, bound_again, may_less, may_in, may_le, kind_leads, left_stands, right_stands, AreNames, names_both, names_less, no_names, below_more, below_same, handed_low, fine_names}
use Rattle.lp_gen.proofs.BodyParts.{types_zero, zero_set, registers_length, start_with, zero_is, inside_left, inside_right}

-- the same, by other numbers and other code
says_as : (h : Home) (later : Later) (vars n m k l n1 m1 k1 l1 : ℕ) (s v : State) (is js : List Instr) (gs : Goals) (b : List (ℕ × Captured)) → n ≡ n1 → m ≡ m1 → k ≡ k1 → l ≡ l1 → is ≡ js →
    Says h later vars n m k l s is gs b v → Says h later vars n1 m1 k1 l1 s js gs b v
says_as h later vars n m k l n1 m1 k1 l1 s v is js gs bs a b c d e x =
    subst (λ z. Says h later vars n1 m1 k1 l1 s z gs bs v) e (subst (λ z. Says h later vars n1 m1 k1 z s is gs bs v) d
    (subst (λ z. Says h later vars n1 m1 z l s is gs bs v) c (subst (λ z. Says h later vars n1 z k l s is gs bs v) b (subst (λ z. Says h later vars z m k l s is gs bs v) a x))))

said_as : (h : Home) (later : Later) (vars n m k l n1 m1 k1 l1 : ℕ) (s u : State) (is js : List Instr) (gs : Goals) (b : List (ℕ × Captured)) → n ≡ n1 → m ≡ m1 → k ≡ k1 → l ≡ l1 → is ≡ js →
    GoalsSaid h later vars n m k l s is gs b u → GoalsSaid h later vars n1 m1 k1 l1 s js gs b u
said_as h later vars n m k l n1 m1 k1 l1 s u is js gs bs a b c d e x =
    subst (λ z. GoalsSaid h later vars n1 m1 k1 l1 s z gs bs u) e (subst (λ z. GoalsSaid h later vars n1 m1 k1 z s is gs bs u) d
    (subst (λ z. GoalsSaid h later vars n1 m1 z l s is gs bs u) c (subst (λ z. GoalsSaid h later vars n1 z k l s is gs bs u) b (subst (λ z. GoalsSaid h later vars z m k l s is gs bs u) a x))))

-- what a goal says: a `sigma` stays open up to the end of the block around it
abbrev SaidBy : Home → Later → (vars n n' k k' : ℕ) → State → List Instr → Goal → (said : Goal) → List (ℕ × Captured) → State → Type 0
SaidBy h later vars n n' k k' s is (Atomic t) said b u = Says h later vars n n' k k' s is (with_goal s.goals said) b u
SaidBy h later vars n n' k k' s is Cut said b u = Says h later vars n n' k k' s is (with_goal s.goals said) b u
SaidBy h later vars n n' k k' s is (Either gs hs) said b u = Says h later vars n n' k k' s is (with_goal s.goals said) b u
SaidBy h later vars n n' k k' s is (Exists T gs) said b u = GoalsSaid h later vars n n' k k' s is (goals said no_goals) b u
SaidBy h later vars n n' k k' s is (Forall T gs) said b u = Says h later vars n n' k k' s is (with_goal s.goals said) b u
SaidBy h later vars n n' k k' s is (Assume w cs gs) said b u = Says h later vars n n' k k' s is (with_goal s.goals said) b u
SaidBy h later vars n n' k k' s is (Not w gs) said b u = Says h later vars n n' k k' s is (with_goal s.goals said) b u

-- a goal is said, but for what is written in it
pub record GoalTold (h : Home) (later : Later) (vars n n' k k' q : ℕ) (σ : ℕ → Term) (a : Around) (s : State) (is : List Instr) (g : Goal) : Type 0 where
  pub said : Goal
  pub more : List (ℕ × Captured)
  pub state : State
  pub says : SaidBy h later vars n n' k k' s is g said more state
  pub bare : bare_goal said ≡ said_goal σ a 0 g
  pub names : AreNames q more

pub record GoalsTold (h : Home) (later : Later) (vars n n' k k' q : ℕ) (σ : ℕ → Term) (a : Around) (s : State) (is : List Instr) (gs : Goals) : Type 0 where
  pub said : Goals
  pub more : List (ℕ × Captured)
  pub state : State
  pub says : GoalsSaid h later vars n n' k k' s is said more state
  pub bare : bare_goals said ≡ said_goals σ a 0 gs
  pub names : AreNames q more
  pub empty : is ≡ [] → state ≡ s

no_goal_more : (g : Goal) (gs : Goals) → goals g gs ≡ no_goals → ⊥
no_goal_more g gs e = cc

-- what records that are assumed are known for
abbrev pub TellClauses : Home → Later → (vars : ℕ) → (P : Around → (records levels : List ℕ) → Clauses → Type 0) → Type 1
TellClauses h later vars P =
    (a : Around) (ns ls : List ℕ) (cs : Clauses) → P a ns ls cs → (σ : ℕ → Term) (Γ : List Ty) (B : List Bool) (Q : ℕ → Type 0) (c : Captured) → IsShort a → ClausesFit h vars Γ B Q cs →
    ((i : ℕ) → Q i → IsSeen a Γ i) → ((i : ℕ) (U : Ty) → slice_get Γ i ≡ Some U → IsKnownType h.tables.kinds vars U) →
    ((l : ℕ) (v : Seen) → at_level a l ≡ Some v → IsKnownType h.tables.kinds vars v.of) → clauses_depth cs ≤ nesting_limit → AreAlls h σ a B → AreOuter h σ a → c.types ≡ map var (from_zero vars) →
    StartWith σ a ls c.terms → (ds : Clauses) × (clauses_of_records later ns c ≡ Some ds) × (bare_clauses ds ≡ said_clauses σ a 0 cs)

module _ (P : Around → (records levels : List ℕ) → Clauses → Type 0) (K : ℕ → List Ty → Ty) (h : Home) (later : Later) (vars : ℕ) where
  some_code_is : (a : Around) (n n' k k' q q' : ℕ) (g : Goal) (gs : Goals) (is : List Instr) → GoalsCode P K vars a n n' k k' q q' (goals g gs) is → is ≡ [] → ⊥
  some_code_is a n n' k k' q q' g gs is c e =
      let z = goals_some P K vars a n n' k k' q q' g gs is c in
      let y = ap (sum_by length_of) e in
      let w : sum_by length_of [] ≡ 0 = refl in
      omega (arith, z, y, w)

  atom_told : (n n' k k' q q' : ℕ) (σ : ℕ → Term) (Γ : List Ty) (B : List Bool) (a : Around) (Q : ℕ → Type 0) (s : State) (t : Term) (is : List Instr) → AtomCode K a n n' k k' t is →
      IsAround h K vars n k q σ Γ B a Q s → AtomFits h vars Γ Q t → n' ≤ h.self.types → k' ≤ h.self.registers → MayEnd s
      (s.place + sum_by length_of is) → GoalTold h later vars n n' k k' q' σ a s is (Atomic t)
  atom_told n n' k k' q q' σ Γ B a Q s t is c x fit few low room =
      let a0 = c.after.types_are in
      let a1 = c.after.registers_are in
      let w = c.written.denotes h later vars s σ Γ x.std x.asked (subst (λ z. TypesStand h vars z s) (sym c.before.types_are) x.types_stand)
      (subst (λ z. TermsStand h z s) (sym c.before.registers_are) x.terms_stand) (omega (arith, few, a0)) (omega (arith, low, a1)) x.body
      (subst (λ z. Standing h vars z s.in_body σ a s.now.terms) (sym c.before.registers_are) x.standing)
      (record {
        typed = fit.typed;
        normal = fit.normal;
        known = fit.known;
        positive = fit.positive;
        atomic = fit.atomic;
        headed = fit.headed;
        indices = x.known;
        seen = loose_at (IsSeen a Γ) Q 0 0 0 t refl (λ i q le. let z : i ≡ i - 0 = omega arith in subst (IsSeen a Γ) z (x.seen i q)) fit.loose;
      }) (subst (λ l. MayEnd s (s.place + sum_by length_of l)) c.code_is room) in
      record {
        said = said_goal σ a 0 (Atomic t);
        more = [];
        state = w.0;
        says = says_as h later vars c.old.types c.new.types c.old.registers c.new.registers n n' k k' s w.0 c.written.more is
            (with_goal s.goals (said_goal σ a 0 (Atomic t))) [] c.before.types_are c.after.types_are
            c.before.registers_are c.after.registers_are (sym c.code_is) w.1;
        bare = refl;
        names = no_names q';
      }

  -- goals behind a goal
  abbrev Behind : (n m n' k l k' q q' : ℕ) → (ℕ → Term) → Around → State → (js ks : List Instr) → (said : Goal) → (others : Goals) → Type 0
  Behind n m n' k l k' q q' σ a s js ks said others =
      (t : State) (b : List (ℕ × Captured)) → Says h later vars n m k l s js (with_goal s.goals said) b t → AreNames q b → GoalsTold h later vars m n' l k' q' σ a t ks others

  -- a goal that is no `sigma`, and what is behind it
  piece_joined : (n m n' k l k' q o q' : ℕ) (σ : ℕ → Term) (a : Around) (s v : State) (g said : Goal) (b : List (ℕ × Captured)) (rest : Goals)
      (is js ks : List Instr) → 0 < sum_by length_of js → n ≤ m →
      k ≤ l → o ≤ q' → GoalsCode P K vars a m n' l k' o q' rest ks → is ≡ js ++ ks → (is ≡ [] → ⊥) → MayEnd s (s.place + sum_by length_of is) → Says h
      later vars n m k l s js (with_goal s.goals said) b v →
      bare_goal said ≡ said_goal σ a 0 g → AreNames o b → Behind n m n' k l k' o q' σ a s js ks said rest → GoalsTold h later vars n n' k k' q' σ a s is (goals g rest)
  piece_joined n m n' k l k' q o q' σ a s v g said b no_goals is js ks some nm kl oq (d0, d1, d2, d3) e filled room x bare names others =
      let f : js ≡ is = sym (append-nil js) ∙ ap (λ z. js ++ z) (sym d3) ∙ sym e in
      record {
        said = goals said no_goals;
        more = b;
        state = v;
        says = said_as h later vars n m k l n n' k k' s v js is (goals said no_goals) b refl (sym d0) refl (sym d1) f (one_said h later vars n m k l s v js said b some x);
        bare = ap (λ z. goals z no_goals) bare;
        names = names_less o q' b oq names;
        empty = λ z. absurd (filled z);
      }
  piece_joined n m n' k l k' q o q' σ a s v g said b (goals g2 gs2) is js ks some nm kl oq d e filled room x bare names others =
      let y = others v b x names in
      let z = then_said h later vars n m n' k l k' s v y.state js ks said y.said b y.more (goals_some P K vars a m n' l k' o q' g2 gs2 ks d) x y.says nm kl
      (subst (λ q. MayEnd s (s.place + sum_by length_of q)) e room) in
      record {
        said = goals said y.said;
        more = b ++ y.more;
        state = y.state;
        says = said_as h later vars n n' k k' n n' k k' s y.state (js ++ ks) is (goals said y.said) (b ++ y.more) refl refl refl refl (sym e) z;
        bare = λ i. goals (bare i) (y.bare i);
        names = names_both q' b y.more (names_less o q' b oq names) y.names;
        empty = λ z. absurd (filled z);
      }

  -- a `sigma` ends its list
  last_joined : (n m n' k l k' q o q' : ℕ) (σ : ℕ → Term) (a : Around) (s v : State) (T : Ty) (gs : Goals) (said : Goal) (b : List (ℕ × Captured)) (rest : Goals) (is js ks : List Instr) → o ≤ q' →
      GoalsCode P K vars a m n' l k' o q' rest ks → rest ≡ no_goals → is ≡ js ++ ks → (is ≡ [] → ⊥) → GoalsSaid h later vars n m k l s js (goals said no_goals) b v →
      bare_goal said ≡ said_goal σ a 0 (Exists T gs) → AreNames o b → GoalsTold h later vars n n' k k' q' σ a s is (goals (Exists T gs) rest)
  last_joined n m n' k l k' q o q' σ a s v T gs said b (goals g2 gs2) is js ks oq d last e filled x bare names = absurd (no_goal_more g2 gs2 last)
  last_joined n m n' k l k' q o q' σ a s v T gs said b no_goals is js ks oq (d0, d1, d2, d3) last e filled x bare names =
      let f : js ≡ is = sym (append-nil js) ∙ ap (λ z. js ++ z) (sym d3) ∙ sym e in
      record {
        said = goals said no_goals;
        more = b;
        state = v;
        says = said_as h later vars n m k l n n' k k' s v js is (goals said no_goals) b refl (sym d0) refl (sym d1) f x;
        bare = ap (λ z. goals z no_goals) bare;
        names = names_less o q' b oq names;
        empty = λ z. absurd (filled z);
      }

  goals_joined : (n m n' k l k' q o q' : ℕ) (σ : ℕ → Term) (a : Around) (s : State) (g : Goal) (rest : Goals) (is js ks : List Instr) → GoalCode P K vars a n m k l q o g js →
      GoalsCode P K vars a m n' l k' o q' rest ks → ends_list g rest → is ≡ js ++ ks → (is ≡ [] → ⊥) → MayEnd s (s.place + sum_by length_of is) → (w : GoalTold h later vars n m k l o σ a s js g) →
      Behind n m n' k l k' o q' σ a s js ks w.said rest → GoalsTold h later vars n n' k k' q' σ a s is (goals g rest)
  goals_joined n m n' k l k' q o q' σ a s (Exists T gs) rest is js ks c d last e filled room w others =
      last_joined n m n' k l k' q o q' σ a s w.state T gs w.said w.more rest is js ks (goals_grow P K vars a m n' l k' o q' rest ks d).2 d last e filled w.says w.bare w.names
  goals_joined n m n' k l k' q o q' σ a s (Atomic t) rest is js ks c d last e filled room w others =
      let grow = goal_grows P K vars a n m k l q o (Atomic t) js c in
      piece_joined n m n' k l k' q o q' σ a s w.state (Atomic t) w.said w.more rest is js ks (goal_some P K vars a n m k l q o (Atomic t) js c) grow.0 grow.1
      (goals_grow P K vars a m n' l k' o q' rest ks d).2 d e filled room w.says w.bare w.names others
  goals_joined n m n' k l k' q o q' σ a s Cut rest is js ks c d last e filled room w others =
      let grow = goal_grows P K vars a n m k l q o Cut js c in
      piece_joined n m n' k l k' q o q' σ a s w.state Cut w.said w.more rest is js ks (goal_some P K vars a n m k l q o Cut js c) grow.0 grow.1
      (goals_grow P K vars a m n' l k' o q' rest ks d).2 d e filled room w.says w.bare w.names others
  goals_joined n m n' k l k' q o q' σ a s (Either gs hs) rest is js ks c d last e filled room w others =
      let grow = goal_grows P K vars a n m k l q o (Either gs hs) js c in
      piece_joined n m n' k l k' q o q' σ a s w.state (Either gs hs) w.said w.more rest is js ks (goal_some P K vars a n m k l q o (Either gs hs) js c) grow.0 grow.1
      (goals_grow P K vars a m n' l k' o q' rest ks d).2 d e filled room w.says w.bare w.names others
  goals_joined n m n' k l k' q o q' σ a s (Forall T gs) rest is js ks c d last e filled room w others =
      let grow = goal_grows P K vars a n m k l q o (Forall T gs) js c in
      piece_joined n m n' k l k' q o q' σ a s w.state (Forall T gs) w.said w.more rest is js ks (goal_some P K vars a n m k l q o (Forall T gs) js c) grow.0 grow.1
      (goals_grow P K vars a m n' l k' o q' rest ks d).2 d e filled room w.says w.bare w.names others
  goals_joined n m n' k l k' q o q' σ a s (Assume u cs gs) rest is js ks c d last e filled room w others =
      let grow = goal_grows P K vars a n m k l q o (Assume u cs gs) js c in
      piece_joined n m n' k l k' q o q' σ a s w.state (Assume u cs gs) w.said w.more rest is js ks (goal_some P K vars a n m k l q o (Assume u cs gs) js c) grow.0 grow.1
      (goals_grow P K vars a m n' l k' o q' rest ks d).2 d e filled room w.says w.bare w.names others
  goals_joined n m n' k l k' q o q' σ a s (Not u gs) rest is js ks c d last e filled room w others =
      let grow = goal_grows P K vars a n m k l q o (Not u gs) js c in
      piece_joined n m n' k l k' q o q' σ a s w.state (Not u gs) w.said w.more rest is js ks (goal_some P K vars a n m k l q o (Not u gs) js c) grow.0 grow.1
      (goals_grow P K vars a m n' l k' o q' rest ks d).2 d e filled room w.says w.bare w.names others

  -- what is known of goals that are said in a block
  abbrev AreSaid : (ℕ → Term) → Around → (q : ℕ) → (gs said : Goals) → List (ℕ × Captured) → Type 0
  AreSaid σ a q gs said b = (bare_goals said ≡ said_goals σ a 0 gs) × AreNames q b

  inner_of : (n n' k k' q : ℕ) (σ : ℕ → Term) (a : Around) (s : State) (is : List Instr) (gs : Goals) → GoalsTold h later vars n n' k k' q σ a s is gs
      → Inner h later vars n n' k k' s is (AreSaid σ a q gs)
  inner_of n n' k k' q σ a s is gs x = (x.said, x.more, (x.bare, x.names), x.state, x.says)

  -- goals below `sigma`
  sigma_told : (n m n' k k' q q' r : ℕ) (σ : ℕ → Term) (Γ : List Ty) (B : List Bool) (a : Around) (Q : ℕ → Type 0) (s u : State) (T : Ty) (gs : Goals) (ts js : List Instr) →
      IsAround h K vars n k q σ Γ B a Q s → GoalsFit h vars (T ∷ Γ) (false ∷ B) (one_more Q) gs → GoalsCode P K vars (pushed a (quantified k T)) m n'
      (k + 1) k' q q' gs js → n ≤ m → k < h.self.registers →
      MayEnd s (s.place + sum_by length_of (ts ++ (on.Sigma k r ∷ [] ++ js))) → Leads h later vars n m s ts u → Hold u r T →
      ((t : State) → Rattle.lp_gen.specs.inner.Bodies.Opened h later vars m m k (k + 1) u (on.Sigma k r ∷ []) (frame_of u (under_sigma k T)) [] t →
      held t.now.terms k ≡ Some (whole (variable k h.number) T) →
      Inner h later vars m n' (k + 1) k' t js (AreSaid (with_level σ (new_level a) (variable k h.number)) (pushed a (quantified k T)) q' gs)) →
      GoalTold h later vars n n' k k' q' σ a s (ts ++ (on.Sigma k r ∷ [] ++ js)) (Exists T gs)
  sigma_told n m n' k k' q q' r σ Γ B a Q s u T no_goals ts js x fit (c0, c1, c2, c3) nm low room leads holds inner =
      let code = ts ++ on.Sigma k r ∷ [] in
      let f : code ≡ ts ++ (on.Sigma k r ∷ [] ++ js) = ap (λ z. ts ++ (on.Sigma k r ∷ z)) (sym c3) in
      let w = sigma_alone h later vars n m k r s u ts T x.body x.terms_stand low leads holds (subst (λ l. MayEnd s (s.place + sum_by length_of l)) (sym f) room) in
      record {
        said = Exists T no_goals;
        more = [];
        state = w.0;
        says = said_as h later vars n m k (k + 1) n n' k k' s w.0 code (ts ++ (on.Sigma k r ∷ [] ++ js)) (goals (Exists T no_goals) no_goals) [] refl (sym c0) refl (sym c1) f w.1;
        bare = refl;
        names = no_names q';
      }
  sigma_told n m n' k k' q q' r σ Γ B a Q s u T (goals g3 gs3) ts js x fit c nm low room leads holds inner =
      let gs = goals g3 gs3 in
      let b = pushed a (quantified k T) in
      let τ = with_level σ (new_level a) (variable k h.number) in
      let grow = goals_grow P K vars b m n' (k + 1) k' q q' gs js c in
      let w = sigma_said h later vars n m n' k k' r s u ts js T (AreSaid τ b q' gs) x.body x.terms_stand low leads holds nm grow.0 room
      (goals_some P K vars b m n' (k + 1) k' q q' g3 gs3 js c) inner in
      record {
        said = Exists T (bind_goals (k ∷ []) h.number w.0);
        more = w.1;
        state = w.3;
        says = w.4;
        bare = ap (Exists T) (bound_again h K vars n k q σ Γ B false a Q s T gs w.0 x fit w.2.0);
        names = w.2.1;
      }

  module _ (records : (a : Around) (ns ls : List ℕ) (cs : Clauses) → P a ns ls cs → AreLater h vars (length ls) ns) (told : TellClauses h later vars P)
      (is_self : slice_get h.records h.number ≡ Some h.self) where
    mutual
      pub goal_says : (n n' k k' q q' : ℕ) (σ : ℕ → Term) (Γ : List Ty) (B : List Bool) (a : Around) (Q : ℕ → Type 0) (s : State) (g : Goal)
          (is : List Instr) → GoalCode P K vars a n n' k k' q q' g is →
          IsInside h is → IsAround h K vars n k q σ Γ B a Q s → GoalFits h vars Γ B Q g → n' ≤ h.self.types → k' ≤ h.self.registers → depth s.frames + goal_depth g ≤ nesting_limit →
          MayEnd s (s.place + sum_by length_of is) → GoalTold h later vars n n' k k' q' σ a s is g
      goal_says n n' k k' q q' σ Γ B a Q s (Atomic t) is (c, same) inside x fit few low nest room = atom_told n n' k k' q q' σ Γ B a Q s t is c x fit few low room
      goal_says n n' k k' q q' σ Γ B a Q s Cut is (c0, c1, c2, c3) inside x fit few low nest room =
          let w = cut_said h later vars n k s x.body x.types_stand x.terms_stand (subst (λ l. MayEnd s (s.place + sum_by length_of l)) c3 room) in
          record {
            said = Cut;
            more = [];
            state = w.0;
            says = says_as h later vars n n k k n n' k k' s w.0 (on.Cut ∷ []) is (with_goal s.goals Cut) [] refl (sym c0) refl (sym c1) (sym c3) w.1;
            bare = refl;
            names = no_names q';
          }
      goal_says n n' k k' q q' σ Γ B a Q s (Either gs hs) is (m, l, o, nl, mr, ls, rs, cl, cr, el, er, e) inside x fit few low nest room =
          let code = on.Either nl ∷ (ls ++ on.Jump mr ∷ rs) in
          let room_s : MayEnd s (s.place + sum_by length_of code) = subst (λ l. MayEnd s (s.place + sum_by length_of l)) e room in
          let within : IsInside h (ls ++ on.Jump mr ∷ rs) = inside_right h (on.Either nl ∷ []) (ls ++ on.Jump mr ∷ rs) (subst (IsInside h) e inside) in
          let right : IsInside h rs = inside_right h (on.Jump mr ∷ []) rs (inside_right h ls (on.Jump mr ∷ rs) within) in
          let z1 = first_bytes (on.Either nl) (ls ++ on.Jump mr ∷ rs) in
          let z2 = sum_by-append length_of ls (on.Jump mr ∷ rs) in
          let z3 = first_bytes (on.Jump mr) rs in
          let gl = goals_grow P K vars a n m k l q o gs ls cl in
          let gr = goals_grow P K vars a m n' l k' o q' hs rs cr in
          let nm = gl.0 in
          let kl = gl.1 in
          let qo = gl.2 in
          let mn = gr.0 in
          let lk = gr.1 in
          let oq = gr.2 in
          let t = left_begins s nl in
          let lands = left_stands h vars n k nl s x.types_stand x.terms_stand in
          let u = goals_say n m k l q o σ Γ B a Q t gs ls cl (inside_left h ls (on.Jump mr ∷ rs) within)
          (around_kept h K vars n n k k q q σ Γ B a Q s t x lands.0 lands.1 (omega (arith, kl, lk, low)) x.body (omega arith) (λ r b q z. z) x.below)
          fit.0 (omega (arith, mn, few)) (omega (arith, lk, low))
          (omega (arith, nest)) (or_none (nat_lt (s.place + 5 + nl) (s.place + 5 + sum_by length_of ls)) (list_any (λ (f : Frame). ends_before (s.place + 5 + sum_by length_of ls) f.block) s.frames)
          (le-ltb (s.place + 5 + nl) (s.place + 5 + sum_by length_of ls) (omega (arith, el)))
          (may_less (s.place + 5 + sum_by length_of ls) (s.place + sum_by length_of code) s.frames (omega (arith, z1, z2, z3)) room_s)) in
          let i = u.says.place_is in
          let r = right_begins s u.state mr u.said in
          let body_u : u.state.in_body ≡ true = u.says.in_body_stays ∙ x.body in
          let rands = right_stands h vars n m k l mr s u.state u.said body_u x.types_stand x.terms_stand u.says.types_stand u.says.terms_stand in
          let same : u.state.place + 5 + sum_by length_of rs ≡ s.place + sum_by length_of code = omega (arith, z1, z2, z3, i) in
          let w = goals_say m n' l k' o q' σ Γ B a Q r hs rs cr right
          (around_kept h K vars n m k l q o σ Γ B a Q s r x rands.0 rands.1 (omega (arith, lk, low)) body_u kl (λ r b q z. z)
          (below_more q o h s.assumed u.more r.assumed x.below u.names qo u.says.assumed_are))
          fit.1 few low (omega (arith, nest))
          (or_none (nat_lt (u.state.place + 5 + mr) (u.state.place + 5 + sum_by length_of rs)) (list_any (λ (f : Frame). ends_before (u.state.place + 5 + sum_by length_of rs) f.block) s.frames)
          (le-ltb (u.state.place + 5 + mr) (u.state.place + 5 + sum_by length_of rs) (omega (arith, er)))
          (subst (λ q. list_any (λ (f : Frame). ends_before q f.block) s.frames ≡ false) (sym same) room_s)) in
          let v = either_said h later vars n m n' k l k' s u.state w.state ls rs u.said w.said u.more w.more nl mr el er x.body (omega (arith, nest))
          x.types_stand x.terms_stand room_s u.says w.says w.empty nm kl in
          record {
            said = Either u.said w.said;
            more = u.more ++ w.more;
            state = v.0;
            says = says_as h later vars n n' k k' n n' k k' s v.0 code is (with_goal s.goals (Either u.said w.said)) (u.more ++ w.more) refl refl refl refl (sym e) v.1;
            bare = λ i. Either (u.bare i) (w.bare i);
            names = names_both q' u.more w.more (names_less o q' u.more oq u.names) w.names;
          }
      goal_says n n' k k' q q' σ Γ B a Q s (Exists T gs) is (m, r, ts, js, kind, short, c, e) inside x fit few low nest room =
          let b = pushed a (quantified k T) in
          let τ = with_level σ (new_level a) (variable k h.number) in
          let code = ts ++ (on.Sigma k r ∷ [] ++ js) in
          let room_s : MayEnd s (s.place + sum_by length_of code) = subst (λ l. MayEnd s (s.place + sum_by length_of l)) e room in
          let within : IsInside h js = inside_right h (on.Sigma k r ∷ []) js (inside_right h ts (on.Sigma k r ∷ [] ++ js) (subst (IsInside h) e inside)) in
          let z1 = sum_by-append length_of ts (on.Sigma k r ∷ [] ++ js) in
          let z2 = sum_by-append length_of (on.Sigma k r ∷ []) js in
          let five : sum_by length_of (on.Sigma k r ∷ []) ≡ 5 = refl in
          let nm = kind_grows n m r T ts kind in
          let grow = goals_grow P K vars b m n' (k + 1) k' q q' gs js c in
          let mn = grow.0 in
          let kk = grow.1 in
          let u = kind_leads h later vars n m r T ts s kind x.types_stand (omega (arith, few, mn)) fit.0
          (may_strict (s.place + sum_by length_of ts) (s.place + sum_by length_of code) s.frames (omega (arith, z1, z2, five)) room_s) in
          let at_u = u.1.place_is in
          let w = sigma_told n m n' k k' q q' r σ Γ B a Q s u.0 T gs ts js x fit.1 c nm (omega (arith, kk, low)) room_s u.1 u.2 (λ t o made.
          let at_t = o.place_is in
          let deep = ap depth o.frames_are ∙ ap depth u.1.same.frames in
          let y = around_pushed h K vars n m k q σ Γ B a Q s t T false x short fit.0 o.types_stand o.terms_stand (omega (arith, kk, low)) (o.in_body_stays ∙ u.1.same.in_body ∙ x.body)
          (λ z d lt f. o.terms_keep z d lt (ap (λ xs. held xs z) u.1.same.terms ∙ f)) made (below_same q q h s.assumed t.assumed x.below (omega arith)
          (o.assumed_are ∙ append-nil u.0.assumed ∙ u.1.same.assumed)) (λ never. absurd (Rattle.std.proofs.Common.true≢false (sym never))) in
          let end = t.place + sum_by length_of js in
          let same : s.place + sum_by length_of code ≡ end = omega (arith, z1, z2, five, at_u, at_t) in
          inner_of m n' (k + 1) k' q' τ b t js gs (goals_say m n' (k + 1) k' q q' τ (T ∷ Γ) (false ∷ B) b (one_more Q) t gs js c within y fit.1 few low (omega (arith, nest, deep))
          (may_in end (frame_of u.0 (under_sigma k T)) u.0 t o.frames_are refl
          (subst (λ fs. list_any (λ (f : Frame). ends_before end f.block) fs ≡ false) (sym u.1.same.frames) (subst (λ z. MayEnd s z) same room_s))))) in
          record {
            said = w.said;
            more = w.more;
            state = w.state;
            says = said_as h later vars n n' k k' n n' k k' s w.state code is (goals w.said no_goals) w.more refl refl refl refl (sym e) w.says;
            bare = w.bare;
            names = w.names;
          }
      goal_says n n' k k' q q' σ Γ B a Q s (Forall T gs) is (m, r, ts, js, kind, short, c, e) inside x fit few low nest room =
          let b = pushed a (quantified k T) in
          let τ = with_level σ (new_level a) (variable k h.number) in
          let back = on.All k r ∷ [] ++ (js ++ on.EndAll ∷ []) in
          let code = ts ++ back in
          let room_s : MayEnd s (s.place + sum_by length_of code) = subst (λ l. MayEnd s (s.place + sum_by length_of l)) e room in
          let here : IsInside h back = inside_right h ts back (subst (IsInside h) e inside) in
          let within : IsInside h js = inside_left h js (on.EndAll ∷ []) (inside_right h (on.All k r ∷ []) (js ++ on.EndAll ∷ []) here) in
          let z1 = sum_by-append length_of ts back in
          let z2 = first_bytes (on.All k r) (js ++ on.EndAll ∷ []) in
          let z3 = sum_by-append length_of js (on.EndAll ∷ []) in
          let one : sum_by length_of (on.EndAll ∷ []) ≡ 1 = refl in
          let five : sum_by length_of (on.All k r ∷ []) ≡ 5 = refl in
          let nm = kind_grows n m r T ts kind in
          let grow = goals_grow P K vars b m n' (k + 1) k' q q' gs js c in
          let mn = grow.0 in
          let kk = grow.1 in
          let u = kind_leads h later vars n m r T ts s kind x.types_stand (omega (arith, mn, few)) fit.0
          (may_strict (s.place + sum_by length_of ts) (s.place + sum_by length_of code) s.frames (omega (arith, z1, z2, z3, one)) room_s) in
          let at_u = u.1.place_is in
          let w = all_said h later vars n m n' k k' r s u.0 ts js T (AreSaid τ b q' gs) x.body (omega (arith, nest)) x.terms_stand (omega (arith, kk, low)) u.1 u.2 nm mn room_s (λ t o made.
          let at_t = o.place_is in
          let deep = ap depth o.frames_are ∙ ap (λ fs. suc (depth fs)) u.1.same.frames in
          let y = around_pushed h K vars n m k q σ Γ B a Q s t T true x short fit.0 o.types_stand o.terms_stand (omega (arith, kk, low)) (o.in_body_stays ∙ u.1.same.in_body ∙ x.body)
          (λ z d lt f. o.terms_keep z d lt (ap (λ xs. held xs z) u.1.same.terms ∙ f)) made (below_same q q h s.assumed t.assumed x.below (omega arith)
          (o.assumed_are ∙ append-nil u.0.assumed ∙ u.1.same.assumed)) (λ always. here k (ap (λ t. t || Rattle.lp_code.specs.Denote.is_set_by_all (js ++ on.EndAll ∷ []) k) (eq-eqb k k refl))) in
          let end = t.place + sum_by length_of js in
          inner_of m n' (k + 1) k' q' τ b t js gs (goals_say m n' (k + 1) k' q q' τ (T ∷ Γ) (true ∷ B) b (one_more Q) t gs js c within y fit.1 few low (omega (arith, nest, deep))
          (may_in end (frame_of u.0 (under_all k T)) u.0 t o.frames_are refl
          (subst (λ fs. list_any (λ (f : Frame). ends_before end f.block) fs ≡ false) (sym u.1.same.frames)
          (may_less end (s.place + sum_by length_of code) s.frames (omega (arith, z1, z2, z3, one, five, at_u, at_t)) room_s))))) in
          record {
            said = Forall T (bind_goals (k ∷ []) h.number w.0);
            more = w.1;
            state = w.3;
            says = says_as h later vars n n' k k' n n' k k' s w.3 code is (with_goal s.goals (Forall T (bind_goals (k ∷ []) h.number w.0))) w.1 refl refl refl refl (sym e) w.4;
            bare = ap (Forall T) (bound_again h K vars n k q σ Γ B true a Q s T gs w.0 x fit.1 w.2.0);
            names = w.2.1;
          }
      goal_says n n' k k' q q' σ Γ B a Q s (Assume w cs gs) is (ns, ts, rs, ls, js, coded, are, types, named, c, e) inside x fit few low nest room =
          let code = on.Assume ns ts rs ∷ [] ++ (js ++ on.EndAssume ∷ []) in
          let room_s : MayEnd s (s.place + sum_by length_of code) = subst (λ l. MayEnd s (s.place + sum_by length_of l)) e room in
          let within : IsInside h js = inside_left h js (on.EndAssume ∷ []) (inside_right h (on.Assume ns ts rs ∷ []) (js ++ on.EndAssume ∷ []) (subst (IsInside h) e inside)) in
          let z1 = sum_by-append length_of (on.Assume ns ts rs ∷ []) (js ++ on.EndAssume ∷ []) in
          let z2 = sum_by-append length_of js (on.EndAssume ∷ []) in
          let one : sum_by length_of (on.EndAssume ∷ []) ≡ 1 = refl in
          let grow = goals_grow P K vars a n n' k k' (q + length ns.items) q' gs js c in
          let kk = grow.1 in
          let qq = grow.2 in
          let captured = captured_by s ts.items rs.items in
          let start = start_with h vars k s.in_body σ a s ls rs.items x.standing x.set are in
          let of_types = ap (Rattle.lp_code.specs.Symbolic.types_in s.now) types ∙ types_zero h vars n vars s x.types_stand (omega arith) in
          let known = told a ns.items ls cs coded σ Γ B Q captured x.short fit.0 x.seen x.known x.standing.known (omega (arith, nest)) x.alls x.outer of_types start.0 in
          let as_many : length ts.items ≡ vars = zero_is vars ts.items types in
          let as_long : length rs.items ≡ length ls = registers_length a ls rs.items are in
          let fine = (λ i. Rattle.lp_code.specs.Rules.are_fine_names h (Rattle.lp_code.specs.Rules.named_before h.number h.records ++ map
          (λ (a : ℕ × Captured). a.0) s.assumed) (as_many i) (as_long i) ns.items)
          ∙ fine_names h vars (length ls) q ns.items (Rattle.lp_code.specs.Rules.named_before h.number h.records ++ map (λ (a : ℕ × Captured). a.0)
          s.assumed) x.below named (records a ns.items ls cs coded) in
          let unset = ap (list_any (λ t. Rattle.std.specs.Prelude.is_none (held s.now.types t))) types ∙ zero_set h vars n vars s x.types_stand (omega arith) in
          let w = assume_said h later vars n n' k k' s ns ts rs known.0 js (AreSaid σ a q' gs) x.body (omega (arith, nest)) x.types_stand x.terms_stand unset start.1 fine known.1 room_s (λ t o.
          let at_t = o.place_is in
          let deep = ap depth o.frames_are in
          let end = t.place + sum_by length_of js in
          inner_of n n' k k' q' σ a t js gs (goals_say n n' k k' (q + length ns.items) q' σ Γ B a Q t gs js c within
          (around_kept h K vars n n k k q (q + length ns.items) σ Γ B a Q s t x o.types_stand o.terms_stand (omega (arith, kk, low)) (o.in_body_stays ∙ x.body) (omega arith) o.terms_keep
          (below_more q (q + length ns.items) h s.assumed (handed ns.items captured) t.assumed x.below (handed_low ns.items captured q (length ns.items) named) (omega arith) o.assumed_are))
          fit.1 few low (omega (arith, nest, deep))
          (may_in end (frame_of s (under_assumption known.0)) s t o.frames_are refl (may_less end (s.place + sum_by length_of code) s.frames (omega (arith, z1, z2, one, at_t)) room_s)))) grow.0 in
          record {
            said = Assume nothing_written known.0 w.0;
            more = handed ns.items captured ++ w.1;
            state = w.3;
            says = says_as h later vars n n' k k' n n' k k' s w.3 code is (with_goal s.goals (Assume nothing_written known.0 w.0)) (handed ns.items captured ++ w.1) refl refl refl refl (sym e) w.4;
            bare = λ i. Assume nothing_written (known.2 i) (w.2.0 i);
            names = names_both q' (handed ns.items captured) w.1 (names_less (q + length ns.items) q' (handed ns.items captured) qq (handed_low ns.items captured q (length ns.items) named)) w.2.1;
          }
      goal_says n n' k k' q q' σ Γ B a Q s (Not w gs) is (js, c, e) inside x fit few low nest room =
          let code = on.Not ∷ [] ++ (js ++ on.EndNot ∷ []) in
          let room_s : MayEnd s (s.place + sum_by length_of code) = subst (λ l. MayEnd s (s.place + sum_by length_of l)) e room in
          let within : IsInside h js = inside_left h js (on.EndNot ∷ []) (inside_right h (on.Not ∷ []) (js ++ on.EndNot ∷ []) (subst (IsInside h) e inside)) in
          let z1 = first_bytes on.Not (js ++ on.EndNot ∷ []) in
          let z2 = sum_by-append length_of js (on.EndNot ∷ []) in
          let one : sum_by length_of (on.EndNot ∷ []) ≡ 1 = refl in
          let first : sum_by length_of (on.Not ∷ []) ≡ 1 = refl in
          let grow = goals_grow P K vars a n n' k k' q q' gs js c in
          let kk = grow.1 in
          let v = not_said h later vars n n' k k' s js (AreSaid σ a q' gs) x.body (omega (arith, nest)) x.types_stand x.terms_stand room_s (λ t o.
          let at_t = o.place_is in
          let deep = ap depth o.frames_are in
          let end = t.place + sum_by length_of js in
          inner_of n n' k k' q' σ a t js gs (goals_say n n' k k' q q' σ Γ B a Q t gs js c within
          (around_kept h K vars n n k k q q σ Γ B a Q s t x o.types_stand o.terms_stand (omega (arith, kk, low)) (o.in_body_stays ∙ x.body) (omega arith) o.terms_keep
          (below_same q q h s.assumed t.assumed x.below (omega arith) (o.assumed_are ∙ append-nil s.assumed))) fit few low (omega (arith, nest, deep))
          (may_in end (frame_of s under_not) s t o.frames_are refl (may_less end (s.place + sum_by length_of code) s.frames (omega (arith, z1, z2, one, first, at_t)) room_s)))) grow.0 in
          record {
            said = Not nothing_written v.0;
            more = v.1;
            state = v.3;
            says = says_as h later vars n n' k k' n n' k k' s v.3 code is (with_goal s.goals (Not nothing_written v.0)) v.1 refl refl refl refl (sym e) v.4;
            bare = ap (Not nothing_written) v.2.0;
            names = v.2.1;
          }

      pub goals_say : (n n' k k' q q' : ℕ) (σ : ℕ → Term) (Γ : List Ty) (B : List Bool) (a : Around) (Q : ℕ → Type 0) (s : State) (gs : Goals)
          (is : List Instr) → GoalsCode P K vars a n n' k k' q q' gs is →
          IsInside h is → IsAround h K vars n k q σ Γ B a Q s → GoalsFit h vars Γ B Q gs → n' ≤ h.self.types → k' ≤ h.self.registers → depth s.frames + goals_depth gs ≤ nesting_limit →
          MayEnd s (s.place + sum_by length_of is) → GoalsTold h later vars n n' k k' q' σ a s is gs
      goals_say n n' k k' q q' σ Γ B a Q s no_goals is (c0, c1, c2, c3) inside x fit few low nest room = record {
        said = no_goals;
        more = [];
        state = s;
        says = said_as h later vars n n k k n n' k k' s s [] is no_goals [] refl (sym c0) refl (sym c1) (sym c3) (nothing_said h later vars n k s x.types_stand x.terms_stand);
        bare = refl;
        names = no_names q';
        empty = λ z. refl;
      }
      goals_say n n' k k' q q' σ Γ B a Q s (goals g rest) is (m, l, o, js, ks, c, d, last, e) inside x fit few low nest room =
          let room_s : MayEnd s (s.place + sum_by length_of (js ++ ks)) = subst (λ l. MayEnd s (s.place + sum_by length_of l)) e room in
          let here : IsInside h (js ++ ks) = subst (IsInside h) e inside in
          let size = sum_by-append length_of js ks in
          let gl = goal_grows P K vars a n m k l q o g js c in
          let gr = goals_grow P K vars a m n' l k' o q' rest ks d in
          let kl = gl.1 in
          let qo = gl.2 in
          let mn = gr.0 in
          let lk = gr.1 in
          let v = goal_says n m k l q o σ Γ B a Q s g js c (inside_left h js ks here) x fit.0 (omega (arith, few, mn)) (omega (arith, low, lk)) (omega (arith, nest))
          (may_le (s.place + sum_by length_of js) (s.place + sum_by length_of (js ++ ks)) s.frames (omega (arith, size)) room_s) in
          goals_joined n m n' k l k' q o q' σ a s g rest is js ks c d last e (some_code_is a n n' k k' q q' g rest is (m, l, o, js, ks, c, d, last, e)) room v (λ t b y names.
          let i = y.place_is in
          let deep = ap depth y.frames_stay in
          let same : s.place + sum_by length_of (js ++ ks) ≡ t.place + sum_by length_of ks = omega (arith, i, size) in
          goals_say m n' l k' o q' σ Γ B a Q t rest ks d (inside_right h js ks here)
          (around_kept h K vars n m k l q o σ Γ B a Q s t x y.types_stand y.terms_stand (omega (arith, lk, low)) (y.in_body_stays ∙ x.body) kl y.terms_keep
          (below_more q o h s.assumed b t.assumed x.below names qo y.assumed_are)) fit.1 few low (omega (arith, nest, deep))
          (subst (λ z. MayEnd t z) same (subst (λ fs. list_any (λ (f : Frame). ends_before (s.place + sum_by length_of (js ++ ks)) f.block) fs ≡ false) (sym y.frames_stay) room_s)))
