-- A change of tasks that each look goes past, where the tasks are as they should be: then a run goes past it, with the searches of its negated goals. The notes name
-- other eigenconstants.
use Rattle.std.proofs.Common.{◌≡◌, ℕ, zero, suc, ◌+◌, List, [], ◌∷◌, ◌++◌, map, length, refl, sym, ap, ◌∙◌}
use Rattle.std.specs.Prelude.{◌-◌, ◌||◌, nat_lt, Bool, true, false, if◌then◌else◌}
use Rattle.std.proofs.lemmas.List.{map-append, length-map}
use Rattle.lp_lemmas.specs.Each.{EachOf}
use Rattle.lp_lemmas.proofs.Each.{each_append, each_drop}
use Rattle.lp_model.specs.declared.ending.Ending.{Ending}
use Rattle.lp_model.specs.declared.ending.Ending.TheVariants.{NoMore, NoMoreCut, Enough, Steps, Flexible, Arithmetic, OpenNot, Deep}
use Rattle.lp_model.specs.Skeleton.{GoalName, named, eigenconstant, variable, Note, GoalNote, BackNote, AnswerNote, CutNote, View, Gives, Opens, Parts, Takes, Cuts, Denies, Halts, Lacks, State, Move, Goes, Tells, Stops, Breaks, Waits, Inner, Told, not_constant, back, back_for_more, oldest, Refuted, Held, Broke, Lasts, starts_within, move_denied, move_view, move_at, move, later, inner_end, inner_after, inner, told_after, run}
use Rattle.lp_search_laws.proofs.Stack.Alongside.{state_map, oldest_map}

module _ {T A : Type 0} (ρ : ℕ → ℕ) (f : T → T) (g : A → A) (Ok : T → Type 0) where
  abbrev pub name_map : GoalName → GoalName
  name_map (named c) = named c
  name_map (eigenconstant k) = eigenconstant (ρ k)
  name_map variable = variable

  abbrev note_map : Note → Note
  note_map (GoalNote n) = GoalNote (name_map n)
  note_map BackNote = BackNote
  note_map (AnswerNote k) = AnswerNote k
  note_map CutNote = CutNote

  abbrev notes : List Note → List Note
  notes ns = map note_map ns

  abbrev pub image : View T A → View T A
  image (Gives a) = Gives (g a)
  image (Opens ts) = Opens (map f ts)
  image (Parts ts) = Parts (map f ts)
  image (Takes name ts) = Takes (name_map name) (map f ts)
  image (Cuts m ts) = Cuts m (map f ts)
  image (Denies t is_final ts) = Denies (f t) is_final (map f ts)
  image (Halts e) = Halts e
  image Lacks = Lacks

  -- what a view leaves is as it should be
  abbrev pub Leaves : View T A → Type 0
  Leaves (Gives a) = Unit {0}
  Leaves (Opens ts) = EachOf Ok ts
  Leaves (Parts ts) = EachOf Ok ts
  Leaves (Takes name ts) = EachOf Ok ts
  Leaves (Cuts m ts) = EachOf Ok ts
  Leaves (Denies t is_final ts) = Ok t × ((a : A) → is_final (g a) ≡ is_final a) × EachOf Ok ts
  Leaves (Halts e) = Unit {0}
  Leaves Lacks = Unit {0}

  abbrev moved_state : State T → State T
  moved_state s = state_map f g s

  abbrev moved_inner : Inner → Inner
  moved_inner (Refuted j ns p) = Refuted j (notes ns) p
  moved_inner (Held j ns p) = Held j (notes ns) p
  moved_inner (Broke j ns e) = Broke j (notes ns) e
  moved_inner (Lasts j ns) = Lasts j (notes ns)

  abbrev moved_move : Move T A → Move T A
  moved_move (Goes k ns s) = Goes k (notes ns) (moved_state s)
  moved_move (Tells a ns s) = Tells (g a) (notes ns) (moved_state s)
  moved_move (Stops e) = Stops e
  moved_move (Breaks k ns e) = Breaks k (notes ns) e
  moved_move (Waits k ns) = Waits k (notes ns)

  abbrev pub moved_told : Told A → Told A
  moved_told t = record { answers = map g t.answers; notes = notes t.notes; steps = t.steps; ending = t.ending }

  abbrev MovesOn : Move T A → Type 0
  MovesOn (Goes j ns s) = EachOf Ok s.stack
  MovesOn (Tells a ns s) = EachOf Ok s.stack
  MovesOn (Stops e) = Unit {0}
  MovesOn (Breaks j ns e) = Unit {0}
  MovesOn (Waits j ns) = Unit {0}

  back_moved : (left rest : List T) → back (map f left) (map f rest) ≡ notes (back left rest)
  back_moved [] [] = refl
  back_moved [] (t ∷ rest) = refl
  back_moved (t ∷ left) rest = refl

  more_moved : (k : ℕ) (rest : List T) → back_for_more k (map f rest) ≡ notes (back_for_more k rest)
  more_moved zero rest = refl
  more_moved (suc k) rest = back_moved [] rest

  goes_same : (k : ℕ) (ns ns' : List Note) (n a v u p : ℕ) (l : Bool) (xs ys : List T) → ns ≡ ns' → xs ≡ ys → ◌≡◌ {A = Move T A}
      (Goes k ns (record { steps = n; answers = a; given = v; rows = u; row = p; lost = l; stack = xs }))
      (Goes k ns' (record { steps = n; answers = a; given = v; rows = u; row = p; lost = l; stack = ys }))
  goes_same k ns ns' n a v u p l xs ys e h = λ i. Goes k (e i) (record { steps = n; answers = a; given = v; rows = u; row = p; lost = l; stack = h i })

  denied_moved : (n k v u : ℕ) (lost : Bool) (ts rest : List T) (r : Inner) → move_denied {Answer = A} n k v u lost (map f ts) (map f rest) (moved_inner r) ≡ moved_move (move_denied n k v u lost ts rest r)
  denied_moved n k v u lost ts rest (Refuted j ns p) =
      goes_same (suc j) _ _ (n - j) (suc k) v u p lost _ _ (ap (λ ms. GoalNote (named not_constant) ∷ ms) (ap (λ ms. notes ns ++ ms) (back_moved ts rest) ∙ sym (map-append note_map ns (back ts rest)))) (sym (map-append f ts rest))
  denied_moved n k v u lost ts rest (Held j ns p) =
      goes_same (suc j) _ _ (n - j) (suc k) v u p lost _ _ (ap (λ ms. GoalNote (named not_constant) ∷ ms) (ap (λ ms. notes ns ++ ms) (back_moved [] rest) ∙ sym (map-append note_map ns (back [] rest)))) refl
  denied_moved n k v u lost ts rest (Broke j ns e) = refl
  denied_moved n k v u lost ts rest (Lasts j ns) = refl

  -- the searches of negated goals come to the same
  abbrev Same : ((A → Bool) → State T → Inner) → Type 0
  Same go = (p : A → Bool) → ((a : A) → p (g a) ≡ p a) → (s : State T) → EachOf Ok s.stack → go p (moved_state s) ≡ moved_inner (go p s)

  view_moved : (go : (A → Bool) → State T → Inner) → Same go → (n k v u p : ℕ) (lost : Bool) (rest : List T) (w : View T A) → Leaves w → move_view go n k v u p lost (map f rest) (image w) ≡ moved_move (move_view go n k v u p lost rest w)
  view_moved go h n k v u p lost rest (Gives a) o = ap (λ (ns : List Note). Tells (g a) (AnswerNote (suc v) ∷ ns) (record { steps = n; answers = k; given = suc v; rows = u; row = u; lost = lost; stack = map f rest })) (more_moved k rest)
  view_moved go h n k v u p lost rest (Opens ts) o = goes_same 0 _ _ n (suc k) v u p lost _ _ (back_moved ts rest) (sym (map-append f ts rest))
  view_moved go h n k v u zero lost rest (Parts ts) o = refl
  view_moved go h n k v u (suc p) lost rest (Parts ts) o = goes_same 0 _ _ n (suc k) v u p lost _ _ (back_moved ts rest) (sym (map-append f ts rest))
  view_moved go h zero k v u p lost rest (Takes name ts) o = refl
  view_moved go h (suc n) k v u p lost rest (Takes name ts) o = goes_same 1 _ _ n (suc k) v u u lost _ _ (ap (λ ns. GoalNote (name_map name) ∷ ns) (back_moved ts rest)) (sym (map-append f ts rest))
  view_moved go h zero k v u p lost rest (Cuts m ts) o = refl
  view_moved go h (suc n) k v u p lost rest (Cuts m ts) o =
      let e = oldest_map f g m rest in
      ap (λ j. Goes 1 (CutNote ∷ back (map f ts) (oldest m (map f rest))) (record { steps = n; answers = suc k; given = v; rows = u; row = u; lost = lost || nat_lt m j; stack = map f ts ++ oldest m (map f rest) })) (length-map rest f) ∙
      goes_same 1 _ _ n (suc k) v u u (lost || nat_lt m (length rest)) _ _ (ap (λ ns. CutNote ∷ ns) (ap (back (map f ts)) e ∙ back_moved ts (oldest m rest))) (ap (λ xs. map f ts ++ xs) e ∙ sym (map-append f ts (oldest m rest)))
  view_moved go h zero k v u p lost rest (Denies t x ts) o = refl
  view_moved go h (suc n) k v u p lost rest (Denies t x ts) o = ap (move_denied n k v u lost (map f ts) (map f rest)) (h x o.1 (starts_within u t n 1) (o.0, tt)) ∙ denied_moved n k v u lost ts rest (go x (starts_within u t n 1))
  view_moved go h n k v u p lost rest (Halts e) o = refl
  view_moved go h n k v u p lost rest Lacks o = refl

  denied_on : (n k v u : ℕ) (lost : Bool) (ts rest : List T) (r : Inner) → EachOf Ok ts → EachOf Ok rest → MovesOn (move_denied n k v u lost ts rest r)
  denied_on n k v u lost ts rest (Refuted c ns p) o q = each_append Ok ts rest o q
  denied_on n k v u lost ts rest (Held c ns p) o q = q
  denied_on n k v u lost ts rest (Broke c ns x) o q = tt
  denied_on n k v u lost ts rest (Lasts c ns) o q = tt

  view_on : (go : (A → Bool) → State T → Inner) (n k v u p : ℕ) (lost : Bool) (rest : List T) (w : View T A) → Leaves w → EachOf Ok rest → MovesOn (move_view go n k v u p lost rest w)
  view_on go n k v u p lost rest (Gives a) o q = q
  view_on go n k v u p lost rest (Opens ts) o q = each_append Ok ts rest o q
  view_on go n k v u zero lost rest (Parts ts) o q = tt
  view_on go n k v u (suc p) lost rest (Parts ts) o q = each_append Ok ts rest o q
  view_on go zero k v u p lost rest (Takes name ts) o q = tt
  view_on go (suc n) k v u p lost rest (Takes name ts) o q = each_append Ok ts rest o q
  view_on go zero k v u p lost rest (Cuts m ts) o q = tt
  view_on go (suc n) k v u p lost rest (Cuts m ts) o q = each_append Ok ts (oldest m rest) o (each_drop Ok (length rest - m) rest q)
  view_on go zero k v u p lost rest (Denies t x ts) o q = tt
  view_on go (suc n) k v u p lost rest (Denies t x ts) o q = denied_on n k v u lost ts rest (go x (starts_within u t n 1)) o.2 q
  view_on go n k v u p lost rest (Halts e) o q = tt
  view_on go n k v u p lost rest Lacks o q = tt

  later_moved : (j : ℕ) (ns : List Note) (r : Inner) → later j (notes ns) (moved_inner r) ≡ moved_inner (later j ns r)
  later_moved j ns (Refuted k ms p) = ap (λ z. Refuted (j + k) z p) (sym (map-append note_map ns ms))
  later_moved j ns (Held k ms p) = ap (λ z. Held (j + k) z p) (sym (map-append note_map ns ms))
  later_moved j ns (Broke k ms e) = ap (λ z. Broke (j + k) z e) (sym (map-append note_map ns ms))
  later_moved j ns (Lasts k ms) = ap (λ z. Lasts (j + k) z) (sym (map-append note_map ns ms))

  end_moved : (p : ℕ) (e : Ending) → inner_end p e ≡ moved_inner (inner_end p e)
  end_moved p NoMore = refl
  end_moved p NoMoreCut = refl
  end_moved p Enough = refl
  end_moved p Steps = refl
  end_moved p Flexible = refl
  end_moved p (Arithmetic f) = refl
  end_moved p OpenNot = refl
  end_moved p Deep = refl

  if_inner : (b : Bool) (row : ℕ) → (if b then Held 0 [] row else Broke 0 [] OpenNot) ≡ moved_inner (if b then Held 0 [] row else Broke 0 [] OpenNot)
  if_inner true row = refl
  if_inner false row = refl

  after_moved : (go : State T → Inner) (p : A → Bool) → ((a : A) → p (g a) ≡ p a) → ((s : State T) → EachOf Ok s.stack → go (moved_state s) ≡ moved_inner (go s)) → (row : ℕ) (x : Move T A) → MovesOn x → inner_after go p row (moved_move x) ≡ moved_inner (inner_after go p row x)
  after_moved go p e h row (Goes j ns s) o = ap (later j (notes ns)) (h s o) ∙ later_moved j ns (go s)
  after_moved go p e h row (Tells a ns s) o = ap (λ (b : Bool). if b then Held 0 [] row else Broke 0 [] OpenNot) (e a) ∙ if_inner (p a) row
  after_moved go p e h row (Stops x) o = end_moved row x
  after_moved go p e h row (Breaks j ns x) o = refl
  after_moved go p e h row (Waits j ns) o = refl

  told_moved : (go : State T → Told A) → ((s : State T) → EachOf Ok s.stack → go (moved_state s) ≡ moved_told (go s)) → (x : Move T A) → MovesOn x → told_after go (moved_move x) ≡ moved_told (told_after go x)
  told_moved go h (Goes k ns s) o =
      ap (λ (t : Told A). told_after (λ x. t) (Goes k (notes ns) (moved_state s))) (h s o) ∙ ap (λ (z : List Note). record { answers = map g (go s).answers; notes = z; steps = k + (go s).steps; ending = (go s).ending }) (sym (map-append note_map ns (go s).notes))
  told_moved go h (Tells a ns s) o =
      ap (λ (t : Told A). told_after (λ x. t) (Tells (g a) (notes ns) (moved_state s))) (h s o) ∙ ap (λ (z : List Note). record { answers = g a ∷ map g (go s).answers; notes = z; steps = (go s).steps; ending = (go s).ending }) (sym (map-append note_map ns (go s).notes))
  told_moved go h (Stops e) o = refl
  told_moved go h (Breaks k ns e) o = refl
  told_moved go h (Waits k ns) o = refl

  module _ (look : ℕ → T → View T A) (same : (height : ℕ) (t : T) → Ok t → look height (f t) ≡ image (look height t)) (stays : (height : ℕ) (t : T) → Ok t → Leaves (look height t)) where
    seen : (go : (A → Bool) → State T → Inner) → Same go → (n k v u p : ℕ) (lost : Bool) (t : T) (ts : List T) → Ok t → move_view go n k v u p lost (map f ts) (look (length (map f ts)) (f t)) ≡ moved_move (move_view go n k v u p lost ts (look (length ts) t))
    seen go h n k v u p lost t ts o =
        ap (λ i. move_view go n k v u p lost (map f ts) (look i (f t))) (length-map ts f) ∙ ap (move_view go n k v u p lost (map f ts)) (same (length ts) t o) ∙ view_moved go h n k v u p lost ts (look (length ts) t) (stays (length ts) t o)

    at_moved : (go : (A → Bool) → State T → Inner) → Same go → (n k v u p : ℕ) (lost : Bool) (ts : List T) → EachOf Ok ts → move_at go look n k v u p lost (map f ts) ≡ moved_move (move_at go look n k v u p lost ts)
    at_moved go h n zero v u p lost ts o = refl
    at_moved go h n (suc k) v u p true [] o = refl
    at_moved go h n (suc k) v u p false [] o = refl
    at_moved go h n (suc k) v u p true (t ∷ ts) o = seen go h n k v u p true t ts o.0
    at_moved go h n (suc k) v u p false (t ∷ ts) o = seen go h n k v u p false t ts o.0

    at_on : (go : (A → Bool) → State T → Inner) (n k v u p : ℕ) (lost : Bool) (ts : List T) → EachOf Ok ts → MovesOn (move_at go look n k v u p lost ts)
    at_on go n zero v u p lost ts o = tt
    at_on go n (suc k) v u p true [] o = tt
    at_on go n (suc k) v u p false [] o = tt
    at_on go n (suc k) v u p true (t ∷ ts) o = view_on go n k v u p true ts (look (length ts) t) (stays (length ts) t o.0) o.1
    at_on go n (suc k) v u p false (t ∷ ts) o = view_on go n k v u p false ts (look (length ts) t) (stays (length ts) t o.0) o.1

    inner_moved : (n : ℕ) → Same (inner look n)
    inner_moved zero p e s o = refl
    inner_moved (suc n) p e s o =
        ap (inner_after (inner look n p) p s.row) (at_moved (inner look n) (inner_moved n) s.steps s.answers s.given s.rows s.row s.lost s.stack o) ∙
        after_moved (inner look n p) p e (λ x q. inner_moved n p e x q) s.row (move (inner look n) look s) (at_on (inner look n) s.steps s.answers s.given s.rows s.row s.lost s.stack o)

    pub run_moved : (j n : ℕ) (s : State T) → EachOf Ok s.stack → run look j n (moved_state s) ≡ moved_told (run look j n s)
    run_moved j zero s o = refl
    run_moved j (suc n) s o =
        ap (told_after (run look j n)) (at_moved (inner look j) (inner_moved j) s.steps s.answers s.given s.rows s.row s.lost s.stack o) ∙
        told_moved (run look j n) (λ x q. run_moved j n x q) (move (inner look j) look s) (at_on (inner look j) s.steps s.answers s.given s.rows s.row s.lost s.stack o)
