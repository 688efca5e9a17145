-- Runs of typed tasks, with negation. Sound: each answer has only solutions of the tasks, where a refuted search is a leaf. Exhausted: where nothing more is left and no
-- task was cut away, each solution is an instance of an answer, where no search is held whose goals have a leaf.
use Rattle.std.proofs.Common.{◌≡◌, ◌≤◌, ◌+◌, ◌-◌, ℕ, zero, suc, List, [], ◌∷◌, ◌++◌, map, length, Some, refl, sym, ap, ◌∙◌, subst as transport, inl, inr, arith}
use Rattle.std.specs.Prelude.{◌||◌, Bool, true, false, nat_lt}
use Rattle.std.proofs.lemmas.Bool.{cases_lt, lt-ltb, or_right}
use Rattle.std.proofs.lemmas.List.{map-append, length-map}
use Rattle.lp_lemmas.specs.Each.{AnyOf, EachOf}
use Rattle.lp_lemmas.proofs.Each.{any_append, any_front, any_back, any_drop, each_append, each_drop}
use Rattle.lp_model.specs.declared.ending.Ending.TheVariants.{NoMore}
use Rattle.lp_model.specs.Unify.{unit_limit}
use Rattle.lp_model.specs.Faithful.{Leaves as AllLeft}
use Rattle.lp_model.specs.Skeleton.{View, Gives, Opens, Parts, Takes, Cuts, Denies, Halts, Lacks, State, Note, Goes, Told, Inner, Refuted, Held, Broke, Lasts, GoalNote, CutNote, named, not_constant, back, starts_within, oldest, move_denied, move_view, move_at, inner, told_after, run}
use Rattle.lp_model.specs.Flat.{Clause}
use Rattle.lp_model.specs.Pair.{Closing}
use Rattle.lp_model.specs.Branch.{Answer, Task, Go}
use Rattle.lp_model.specs.Search.{look}
use Rattle.lp_model.specs.Answers.{Query, Instance, Closes, IsInstance, IsWellFormed, AnswerTyping, TypedAnswer}
use Rattle.lp_model.specs.Proofs.{Declared, Leaves}
use Rattle.lp_search_laws.specs.Branches.{TypedTask, going, trying, stopping, lacking, task_of, IsOk, Sol, IsQueryInstance, HasLeaf}
use Rattle.lp_search_laws.specs.Given.{IsTypedFrom, IsLeftBy, at_once, by_look, IsGivenFrom}
use Rattle.lp_search_laws.specs.Views.{IsRightView, DeniesTyped, StandFor, IsAnswerOf}
use Rattle.lp_search_laws.proofs.Stack.InStep.{oldest_map}
use Rattle.lp_search_laws.proofs.Stack.Faithful.{oldest_all}
use Rattle.lp_search_laws.proofs.Stack.Inners.{BreaksRightly, inner_rightly}

-- what holds of the tasks that a view leaves, and of that of a negated goal's search
abbrev pub Stays : (Kept Denied : Task → Type 0) → View Task Answer → Type 0
Stays Kept Denied (Gives a) = Unit {0}
Stays Kept Denied (Opens ts) = EachOf Kept ts
Stays Kept Denied (Parts ts) = EachOf Kept ts
Stays Kept Denied (Takes name ts) = EachOf Kept ts
Stays Kept Denied (Cuts m ts) = EachOf Kept ts
Stays Kept Denied (Denies t f ts) = Denied t × EachOf Kept ts
Stays Kept Denied (Halts e) = Unit {0}
Stays Kept Denied Lacks = Unit {0}

abbrev pub AnyTask : Task → Type 0
AnyTask t = Unit {0}

pub all_stay : (Kept : Task → Type 0) (v : View Task Answer) → AllLeft Kept v → Stays Kept Kept v
all_stay Kept (Gives a) h = tt
all_stay Kept (Opens ts) h = h
all_stay Kept (Parts ts) h = h
all_stay Kept (Takes name ts) h = h
all_stay Kept (Cuts m ts) h = h
all_stay Kept (Denies t f ts) h = h
all_stay Kept (Halts e) h = tt
all_stay Kept Lacks h = tt

module _ (n : ℕ) (d : Declared) (P : List Clause) (q : Query) (L : Leaves) (j : ℕ) (Kept Denied : Task → Type 0) (Few Fewer : ℕ → Type 0) where
  -- a search of a negated goal that is refuted in few steps is a leaf for its goals
  abbrev pub Proves : Type 0
  Proves = (T : TypedTask) (u : Task) (f : Answer → Bool) (ts : List Task) (r : DeniesTyped L n d P q T u f ts) → Denied u → (steps rows k p : ℕ)
      (ns : List Note) → inner (look unit_limit n P) j f (starts_within rows u steps 1) ≡ Refuted k ns p → Few (suc k) → (c : Closing) → Closes d
      r.variables c → HasLeaf L P c r.eigens r.assumed r.goals

  -- for the goals of one that is held there is no leaf
  abbrev pub Excludes : Type 0
  Excludes = (T : TypedTask) (u : Task) (f : Answer → Bool) (ts : List Task) (r : DeniesTyped L n d P q T u f ts) → Denied u → (steps rows k p : ℕ)
      (ns : List Note) → inner (look unit_limit n P) j f (starts_within rows u steps 1) ≡ Held k ns p → Fewer (suc k) → (c : Closing) → Closes d
      r.variables c → HasLeaf L P c r.eigens r.assumed r.goals → ⊥

  abbrev Solved : Instance → List TypedTask → Type 0
  Solved i Ts = AnyOf (Sol L d P q i) Ts

  abbrev Given : Instance → List TypedAnswer → Type 0
  Given i as' = AnyOf (λ a. IsInstance d a.typing a.answer i) as'

  -- an answer with the typing that the search gives it, from one of the tasks
  abbrev IsGivenFromOne : List TypedTask → TypedAnswer → Type 0
  IsGivenFromOne Ts a = AnyOf (λ T. IsGivenFrom n d P T a) Ts

  given_so : (Us Ts : List TypedTask) → ((a : TypedAnswer) → IsGivenFromOne Us a → IsGivenFromOne Ts a) → (as' : List TypedAnswer) → EachOf (IsGivenFromOne Us) as' → EachOf (IsGivenFromOne Ts) as'
  given_so Us Ts g [] h = tt
  given_so Us Ts g (a ∷ as') h = (g a h.0, given_so Us Ts g as' h.1)

  -- from a task that a look leaves
  given_by_look : (height : ℕ) (T S : TypedTask) (a : TypedAnswer) → IsLeftBy (look unit_limit n P height (task_of T)) (task_of S) → IsTypedFrom n d T S → IsGivenFrom n d P S a → IsGivenFrom n d P T a
  given_by_look height T S a l h g = record { typing = g.typing; branch = g.branch; reached = by_look height S l h g.reached; done = g.done; answer = g.answer; is = g.is }

  -- tasks that are among those of a view
  each_later : (t : Task) (ts : List Task) (Vs : List TypedTask) → EachOf (λ V. AnyOf (λ r. r ≡ task_of V) ts) Vs → EachOf (λ V. AnyOf (λ r. r ≡ task_of V) (t ∷ ts)) Vs
  each_later t ts [] h = tt
  each_later t ts (V ∷ Vs) h = (inr h.0, each_later t ts Vs h.1)

  each_left : (Us : List TypedTask) (ts : List Task) → map task_of Us ≡ ts → EachOf (λ U. AnyOf (λ t. t ≡ task_of U) ts) Us
  each_left [] ts e = tt
  each_left (U ∷ Us) [] e = absurd (cc)
  each_left (U ∷ Us) (t ∷ ts) e = let x : t ≡ task_of U = cc in let y : map task_of Us ≡ ts = cc in (inl x, each_later t ts Us (each_left Us ts y))

  abbrev AreSound : List TypedTask → List TypedAnswer → Type 0
  AreSound Ts as' = EachOf (λ a. (i : Instance) → IsQueryInstance d q i → IsInstance d a.typing a.answer i → Solved i Ts) as'

  -- what is told of typed tasks
  pub record RightRun (lost : Bool) (Ts : List TypedTask) (t : Told Answer) : Type 0 where
    pub typed : List TypedAnswer
    pub is : map (λ a. a.answer) typed ≡ t.answers
    pub well_formed : EachOf (λ a. IsWellFormed d q a.typing a.answer) typed
    pub given : EachOf (IsGivenFromOne Ts) typed
    pub sound : Few t.steps → AreSound Ts typed
    pub exhausts : t.ending ≡ Some NoMore → Fewer t.steps → (i : Instance) → Solved i Ts → Given i typed
    -- what is lost stays lost
    pub never : lost ≡ true → t.ending ≡ Some NoMore → ⊥

  sound_so : (Us Ts : List TypedTask) → ((i : Instance) → Solved i Us → Solved i Ts) → (as' : List TypedAnswer) → AreSound Us as' → AreSound Ts as'
  sound_so Us Ts g [] h = tt
  sound_so Us Ts g (a ∷ as') h = (λ i x y. g i (h.0 i x y), sound_so Us Ts g as' h.1)

  -- a typed task as it should be
  abbrev IsFine : TypedTask → Type 0
  IsFine T = IsOk n d P q T × Kept (task_of T)

  module _ (looks : (height : ℕ) (T : TypedTask) → IsOk n d P q T → IsRightView L n d P q T (look unit_limit n P height (task_of T))) (monos : (height : ℕ) (T : TypedTask) → IsOk n d P q T → Kept (task_of T) → Stays Kept Denied (look unit_limit n P height (task_of T)))
      (few : (x y : ℕ) → x ≤ y → Few y → Few x) (fewer : (x y : ℕ) → x ≤ y → Fewer y → Fewer x) (proves : Proves) (excludes : Excludes) where
    all_fine : (Us : List TypedTask) (ts : List Task) → map task_of Us ≡ ts → EachOf (IsOk n d P q) Us → EachOf Kept ts → EachOf IsFine Us
    all_fine [] ts e h m = tt
    all_fine (U ∷ Us) [] e h m = absurd (cc)
    all_fine (U ∷ Us) (t ∷ ts) e h m = let x : task_of U ≡ t = cc in let y : map task_of Us ≡ ts = cc in ((h.0, transport Kept (sym x) m.0), all_fine Us ts y h.1 m.1)

    both_tasks : (Us Rest : List TypedTask) (ts : List Task) → map task_of Us ≡ ts → ts ++ map task_of Rest ≡ map task_of (Us ++ Rest)
    both_tasks Us Rest ts e = ap (λ z. z ++ map task_of Rest) (sym e) ∙ sym (map-append task_of Us Rest)

    first_part : (x y : ℕ) → x ≤ x + y
    first_part x y = omega arith

    second_part : (x y : ℕ) → y ≤ x + y
    second_part x y = omega arith

    none_ended : (lost : Bool) (Ts : List TypedTask) (t : Told Answer) → t.answers ≡ [] → (t.ending ≡ Some NoMore → ⊥) → RightRun lost Ts t
    none_ended lost Ts t a e = record { typed = []; is = sym a; well_formed = tt; given = tt; sound = λ f. tt; exhausts = λ x f i s. absurd (e x); never = λ l x. e x }

    module _ (go : State Task → Told Answer) (ih : (s : State Task) (Ts : List TypedTask) → s.stack ≡ map task_of Ts → EachOf IsFine Ts → RightRun s.lost Ts (go s)) where
      goes : (lost lost' : Bool) (Ts Us : List TypedTask) (c : ℕ) (ns : List Note) (s : State Task) → RightRun lost' Us (go s) → (lost ≡ true → lost' ≡ true) →
          ((a : TypedAnswer) → IsGivenFromOne Us a → IsGivenFromOne Ts a) → (Few (c + (go s).steps) → (i : Instance) → Solved i Us → Solved i Ts) → ((go s).ending ≡ Some NoMore → Fewer (c + (go s).steps) → (i : Instance) → Solved i Ts → Solved i Us) → RightRun lost Ts (told_after go (Goes c ns s))
      goes lost lost' Ts Us c ns s x l v g k = record {
        typed = x.typed;
        is = x.is;
        well_formed = x.well_formed;
        given = given_so Us Ts v x.typed x.given;
        sound = λ f. sound_so Us Ts (g f) x.typed (x.sound (few (go s).steps (c + (go s).steps) (second_part c (go s).steps) f));
        exhausts = λ e f i h. x.exhausts e (fewer (go s).steps (c + (go s).steps) (second_part c (go s).steps) f) i (k e f i h);
        never = λ e y. x.never (l e) y;
      }

      -- tasks in the place of one
      opens : (lost : Bool) (T : TypedTask) (Us Rest : List TypedTask) (c : ℕ) (ns : List Note) (s : State Task) → RightRun lost (Us ++ Rest) (go s) →
          ((a : TypedAnswer) → IsGivenFromOne Us a → IsGivenFrom n d P T a) → ((i : Instance) → Solved i Us → Sol L d P q i T) →
          ((i : Instance) → Sol L d P q i T → Solved i Us) → RightRun lost (T ∷ Rest) (told_after go (Goes c ns s))
      opens lost T Us Rest c ns s x v g k = goes lost lost (T ∷ Rest) (Us ++ Rest) c ns s x (λ l. l)
          (λ a h. elim (any_append (λ U. IsGivenFrom n d P U a) Us Rest h) [ inl y ↦ inl (v a y) | inr y ↦ inr y ])
          (λ f i h. elim (any_append (Sol L d P q i) Us Rest h) [ inl y ↦ inl (g i y) | inr y ↦ inr y ])
          (λ e f i h. elim h [ inl y ↦ any_front (Sol L d P q i) Us Rest (k i y) | inr y ↦ any_back (Sol L d P q i) Us Rest y ])

      module _ (T : TypedTask) (Rest : List TypedTask) (oks : EachOf IsFine Rest) (lost : Bool) where
        abbrev rest : List Task
        rest = map task_of Rest

        denied_right : (u : Task) (f : Answer → Bool) (ts : List Task) (r : DeniesTyped L n d P q T u f ts) →
            ((a : TypedAnswer) → IsGivenFrom n d P (going r.rest_typing r.rest) a → IsGivenFrom n d P T a) → Denied u → EachOf Kept ts →
            (m k g rows : ℕ) (x : Inner) → inner (look unit_limit n P) j f (starts_within rows u m 1) ≡ x → RightRun lost (T ∷ Rest)
            (told_after go (move_denied m k g rows lost ts rest x))
        denied_right u f ts r v a b m k g rows (Refuted c ns p) e =
            let Us = going r.rest_typing r.rest ∷ [] in
            let w : map task_of Us ≡ ts = sym r.goes_on in
            let x = ih _ (Us ++ Rest) (both_tasks Us Rest ts w) (each_append IsFine Us Rest (all_fine Us ts w (r.after, tt) b) oks) in
            goes lost lost (T ∷ Rest) (Us ++ Rest) (suc c) (GoalNote (named not_constant) ∷ ns ++ back ts rest) _ x (λ l. l)
            (λ o h. elim h [ inl z ↦ inl (v o z) | inr z ↦ inr z ])
            (λ y i h. elim h [ inl z ↦ inl (r.gives (λ w' cl. proves T u f ts r a m rows c p ns e (few (suc c) _ (first_part (suc c) _) y) w' cl) i z) | inr z ↦ inr z ])
            (λ e' y i h. elim h [ inl z ↦ inl (r.keeps i z).rest | inr z ↦ inr z ])
        denied_right u f ts r v a b m k g rows (Held c ns p) e = goes lost lost (T ∷ Rest) Rest (suc c) (GoalNote (named not_constant) ∷ ns ++ back [] rest) _ (ih _ Rest refl oks) (λ l. l) (λ o h. inr h) (λ y i h. inr h) (λ e' y i h. elim h [
          | inl z ↦ let s = r.keeps i z in absurd (excludes T u f ts r a m rows c p ns e (fewer (suc c) _ (first_part (suc c) _) y) s.closing s.closes s.leaf)
          | inr z ↦ z
        ])
        denied_right u f ts r v a b m k g rows (Broke c ns x) e = none_ended lost (T ∷ Rest) _ refl (λ y. let z : x ≡ NoMore = cc in transport BreaksRightly e (inner_rightly (look unit_limit n P) j f (starts_within rows u m 1)) z)
        denied_right u f ts r v a b m k g rows (Lasts c ns) e = none_ended lost (T ∷ Rest) _ refl (λ y. cc)

        given_here : (a : Answer) (z : AnswerTyping) → IsAnswerOf T z a → IsGivenFrom n d P T (record { answer = a; typing = z })
        given_here a z h = answered T h
          where
            answered : (U : TypedTask) → IsAnswerOf U z a → IsGivenFrom n d P U (record { answer = a; typing = z })
            answered (going y b) x = record { typing = y; branch = b; reached = at_once refl; done = x.0; answer = x.1; is = x.2 }
            answered (trying y c t e b mark) x = absurd x
            answered (stopping e U) x = absurd x
            answered (lacking U) x = absurd x

        -- answers from tasks that the view leaves
        abbrev Left : View Task Answer → Type 0
        Left v = (U : TypedTask) (a : TypedAnswer) → IsLeftBy v (task_of U) → IsTypedFrom n d T U → IsGivenFrom n d P U a → IsGivenFrom n d P T a

        from_tasks : (ts : List Task) (r : StandFor L n d P q T ts) → ((U : TypedTask) (a : TypedAnswer) → AnyOf (λ t. t ≡ task_of U) ts → IsTypedFrom n d T U → IsGivenFrom n d P U a → IsGivenFrom n d P T a) → (a : TypedAnswer) → IsGivenFromOne r.typed a → IsGivenFrom n d P T a
        from_tasks ts r f a h = among r.typed (each_left r.typed ts r.is) r.given h
          where
            among : (Us : List TypedTask) → EachOf (λ U. AnyOf (λ t. t ≡ task_of U) ts) Us → EachOf (IsTypedFrom n d T) Us → IsGivenFromOne Us a → IsGivenFrom n d P T a
            among [] l x h = absurd h
            among (U ∷ Us) l x h = elim h [ inl z ↦ f U a l.0 x.0 z | inr z ↦ among Us l.1 x.1 z ]

        view_right : (m k g u p : ℕ) (v : View Task Answer) → Left v → IsRightView L n d P q T v → Stays Kept Denied v → RightRun lost (T ∷ Rest) (told_after go (move_view (inner (look unit_limit n P) j) m k g u p lost rest v))
        view_right m k g u p (Gives a) j r w =
            let x = ih _ Rest refl oks in
            record {
              typed = record { answer = a; typing = r.typing } ∷ x.typed;
              is = ap (λ z. a ∷ z) x.is;
              well_formed = (r.ok, x.well_formed);
              given = (inl (given_here a r.typing r.given), given_so Rest (T ∷ Rest) (λ o h. inr h) x.typed x.given);
              sound = λ f. (λ i y z. inl (r.gives i y z), sound_so Rest (T ∷ Rest) (λ i h. inr h) x.typed (x.sound f));
              exhausts = λ e f i h. elim h [ inl y ↦ inl (r.keeps i y).1 | inr y ↦ inr (x.exhausts e f i y) ];
              never = x.never;
            }
        view_right m k g u p (Opens ts) j' r w = opens lost T r.typed Rest 0 (back ts rest) _ (ih _ (r.typed ++ Rest) (both_tasks r.typed Rest ts r.is) (each_append IsFine r.typed Rest (all_fine r.typed ts r.is r.ok w) oks)) (from_tasks ts r j') r.gives r.keeps
        view_right m k g u zero (Parts ts) j' r w = none_ended lost (T ∷ Rest) _ refl (λ y. cc)
        view_right m k g u (suc p) (Parts ts) j' r w = opens lost T r.typed Rest 0 (back ts rest) _ (ih _ (r.typed ++ Rest) (both_tasks r.typed Rest ts r.is) (each_append IsFine r.typed Rest (all_fine r.typed ts r.is r.ok w) oks)) (from_tasks ts r j') r.gives r.keeps
        view_right zero k g u p (Takes name ts) j' r w = none_ended lost (T ∷ Rest) _ refl (λ y. cc)
        view_right (suc m) k g u p (Takes name ts) j' r w = opens lost T r.typed Rest 1 (GoalNote name ∷ back ts rest) _ (ih _ (r.typed ++ Rest) (both_tasks r.typed Rest ts r.is) (each_append IsFine r.typed Rest (all_fine r.typed ts r.is r.ok w) oks)) (from_tasks ts r j') r.gives r.keeps
        view_right zero k g u p (Cuts o ts) j' r w = none_ended lost (T ∷ Rest) _ refl (λ y. cc)
        view_right (suc m) k g u p (Cuts o ts) j' r w =
            let Old = oldest o Rest in
            let same : ts ++ oldest o rest ≡ map task_of (r.typed ++ Old) = ap (λ z. ts ++ z) (oldest_map task_of (λ (a : TypedAnswer). a.answer) o Rest) ∙ both_tasks r.typed Old ts r.is in
            let x = ih _ (r.typed ++ Old) same (each_append IsFine r.typed Old (all_fine r.typed ts r.is r.ok w) (each_drop IsFine (length Rest - o) Rest oks)) in
            goes lost (lost || nat_lt o (length rest)) (T ∷ Rest) (r.typed ++ Old) 1 (CutNote ∷ back ts (oldest o rest)) _ x (λ l. ap (λ b. b || nat_lt o (length rest)) l)
            (λ a h. elim (any_append (λ U. IsGivenFrom n d P U a) r.typed Old h) [ inl y ↦ inl (from_tasks ts r j' a y) | inr y ↦ inr (any_drop (λ U. IsGivenFrom n d P U a) (length Rest - o) Rest y) ])
            (λ f i h. elim (any_append (Sol L d P q i) r.typed Old h) [ inl y ↦ inl (r.gives i y) | inr y ↦ inr (any_drop (Sol L d P q i) (length Rest - o) Rest y) ])
            (λ e f i h. elim (cases_lt o (length rest)) [
              | inl l ↦ absurd (x.never (or_right lost (nat_lt o (length rest)) (lt-ltb o (length rest) l)) e)
              | inr l ↦
                  let all : length Rest ≤ o = transport (λ z. z ≤ o) (length-map Rest task_of) l in
                  elim h [ inl y ↦ any_front (Sol L d P q i) r.typed Old (r.keeps i y) | inr y ↦ any_back (Sol L d P q i) r.typed Old (transport (AnyOf (Sol L d P q i)) (sym (oldest_all o Rest all)) y) ]
            ])
        view_right zero k g u p (Denies t f ts) j' r w = none_ended lost (T ∷ Rest) _ refl (λ y. cc)
        view_right (suc m) k g u p (Denies t f ts) j' r w = denied_right t f ts r (λ a x. j' (going r.rest_typing r.rest) a (transport (AnyOf (λ s. s ≡ Go r.rest)) (sym r.goes_on) (inl refl)) r.given x) w.0 w.1 m k g u (inner (look unit_limit n P) j f (starts_within u t m 1)) refl
        view_right m k g u p (Halts x) j' r w = none_ended lost (T ∷ Rest) _ refl (λ y. let z : x ≡ NoMore = cc in r z)
        view_right m k g u p Lacks j' r w = none_ended lost (T ∷ Rest) _ refl (λ y. cc)

      at_right : (m k g u p : ℕ) (lost : Bool) (Ts : List TypedTask) → EachOf IsFine Ts → RightRun lost Ts (told_after go (move_at (inner (look unit_limit n P) j) (look unit_limit n P) m k g u p lost (map task_of Ts)))
      at_right m zero g u p lost Ts oks = none_ended lost Ts _ refl (λ y. cc)
      at_right m (suc k) g u p true [] oks = none_ended true [] _ refl (λ y. cc)
      at_right m (suc k) g u p false [] oks = record { typed = []; is = refl; well_formed = tt; given = tt; sound = λ f. tt; exhausts = λ e f i h. h; never = λ l. cc }
      at_right m (suc k) g u p true (T ∷ Rest) oks = view_right T Rest oks.1 true m k g u p
          (look unit_limit n P (length (map task_of Rest)) (task_of T)) (λ U a l h x. given_by_look (length (map task_of Rest)) T U a l h x)
          (looks (length (map task_of Rest)) T oks.0.0) (monos (length (map task_of Rest)) T oks.0.0 oks.0.1)
      at_right m (suc k) g u p false (T ∷ Rest) oks = view_right T Rest oks.1 false m k g u p
          (look unit_limit n P (length (map task_of Rest)) (task_of T)) (λ U a l h x. given_by_look (length (map task_of Rest)) T U a l h x)
          (looks (length (map task_of Rest)) T oks.0.0) (monos (length (map task_of Rest)) T oks.0.0 oks.0.1)

    pub run_right : (m : ℕ) (s : State Task) (Ts : List TypedTask) → s.stack ≡ map task_of Ts → EachOf IsFine Ts → RightRun s.lost Ts (run (look unit_limit n P) j m s)
    run_right zero s Ts e oks = none_ended s.lost Ts _ refl (λ y. cc)
    run_right (suc m) s Ts e oks =
        transport (λ z. RightRun s.lost Ts (told_after (run (look unit_limit n P) j m) (move_at (inner (look unit_limit n P) j) (look unit_limit n P) s.steps s.answers s.given s.rows s.row s.lost z))) (sym e)
        (at_right (run (look unit_limit n P) j m) (λ s' Ts' e' oks'. run_right m s' Ts' e' oks') s.steps s.answers s.given s.rows s.row s.lost Ts oks)
