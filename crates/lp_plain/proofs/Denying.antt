-- A negated goal whose search begins: what comes of its search, and then of the one that waits for it, is what came of that.
use Rattle.std.proofs.Common.{◌≡◌, ℕ, zero, suc, ◌+◌, ◌-◌, List, [], ◌∷◌, ◌++◌, length, refl, sym, ap, ◌∙◌, subst, arith, true, false}
use Rattle.std.proofs.lemmas.List.{append-nil}
use Rattle.std.specs.Prelude.{if◌then◌else◌}
use Rattle.lp_model.specs.declared.ending.Ending.{Ending}
use Rattle.lp_model.specs.declared.ending.Ending.TheVariants.{NoMore, NoMoreCut, OpenNot}
use Rattle.lp_model.specs.Branch.{Answer, Branch, Go, Task}
use Rattle.lp_model.specs.Events.{Over}
use Rattle.lp_model.specs.Search.{has_no_pairs}
use Rattle.lp_model.specs.Skeleton.{Broke, Breaks, Denies, GoalNote, Goes, Held, Inner, Lasts, Move, Note, Refuted, State, Stops, Tells, View, Waits, back, inner, inner_after, move, move_at, move_denied, move_view, named, not_constant, row_limit, starts_within}
use Rattle.lp_lemmas.specs.Each.{EachOf}
use Rattle.lp_search_laws.specs.Branches.{no_query}
use Rattle.lp_plain.specs.Moving.{Tally, Waiting, both, quiet, taking}
use Rattle.lp_plain.specs.Reached.{inside_denied}
use Rattle.lp_plain.specs.TypedStates.{IsTaskTyped, IsTypedOver}
use Rattle.lp_plain.proofs.TypedMoves.{IsViewTyped, typed_look}
use Rattle.lp_plain.specs.inner.Following.{Comes, ComesOf, Course, Kept, goes_on, seen_in}
use Rattle.lp_plain.proofs.Following.{Arrives, behind_goes, event_after, kept_on, later_comes, none_both, pair_left, tally_after, tally_is}
use Rattle.lp_plain.proofs.QuietMoves.{by_lost}
use Rattle.lp_plain.proofs.StepsLeft.{TakesAtMost, inner_most}

module _ (c : Course) (s : State Task) (n k : ℕ) (task i : Task) (b : Branch) (rest : List Task) (es : s.stack ≡ task ∷ rest) (et : s.steps ≡ suc n) (ea : s.answers ≡ suc k) (er : s.rows ≡ row_limit)
    (seen : seen_in c (length rest) task ≡ Denies i has_no_pairs (Go b ∷ [])) (types vars : ℕ) where
  abbrev see : ℕ → Task → View Task Answer
  see = seen_in c

  -- the search that waits, and that of the goal
  abbrev pub waits : Waiting
  waits = record { types = types; vars = vars; left = k; given = s.given; lost = s.lost; branch = b; rest = rest }

  abbrev pub begun : State Task
  begun = starts_within s.rows i n 1

  move_is : (j : ℕ) → move (inner see j) see s ≡ move_denied n k s.given s.rows s.lost (Go b ∷ []) rest (inner see j has_no_pairs begun)
  move_is j =
      (λ x. move_at (inner see j) see (et x) (ea x) s.given s.rows s.row s.lost (es x)) ∙ by_lost (inner see j) see (suc n) k s.given s.rows s.row s.lost task rest ∙
      ap (move_view (inner see j) (suc n) k s.given s.rows s.row s.lost rest) seen

  -- its search is one of no query
  typed_inside : IsTypedOver c.query.arity c.enough c.program s → IsTypedOver c.query.arity c.enough c.program begun
  typed_inside ty =
      let w = subst (EachOf (IsTaskTyped c.enough ty.declared c.program ty.query)) es ty.typed in
      let v = subst (IsViewTyped c.enough ty.declared c.program ty.query) seen (typed_look c.enough ty.declared c.program ty.query ty.standard ty.program (length rest) task w.0) in
      record { declared = ty.declared; takes = ty.takes; standard = ty.standard; program = ty.program; query = no_query; typed = (v.0, tt) }

  kept_inside : Kept c s → Kept c begun
  kept_inside v = (λ u r. v.0 u (inside_denied n task i has_no_pairs (Go b ∷ []) rest es et seen r), typed_inside v.1)

  abbrev on : (m p : ℕ) (ts : List Task) → State Task
  on m p ts = record { steps = m; answers = suc k; given = s.given; rows = s.rows; row = p; lost = s.lost; stack = ts }

  same_on : (m p : ℕ) (ts : List Task) → on m p ts ≡ goes_on waits m p ts
  same_on m p ts = λ x. record { steps = m; answers = suc k; given = s.given; rows = er x; row = p; lost = s.lost; stack = ts }

  -- by what comes of its search
  module _ (j : ℕ) where
    refuted_is : (m p : ℕ) (ns : List Note) → inner see j has_no_pairs begun ≡ Refuted m ns p → move (inner see j) see s ≡ Goes (suc m)
        (GoalNote (named not_constant) ∷ ns ++ back (Go b ∷ []) rest) (on (n - m) p (Go b ∷ rest))
    refuted_is m p ns q = move_is j ∙ ap (move_denied n k s.given s.rows s.lost (Go b ∷ []) rest) q

    held_is : (m p : ℕ) (ns : List Note) → inner see j has_no_pairs begun ≡ Held m ns p → move (inner see j) see s ≡ Goes (suc m)
        (GoalNote (named not_constant) ∷ ns ++ back [] rest) (on (n - m) p rest)
    held_is m p ns q = move_is j ∙ ap (move_denied n k s.given s.rows s.lost (Go b ∷ []) rest) q

    broke_is : (m : ℕ) (ns : List Note) (e : Ending) → inner see j has_no_pairs begun ≡ Broke m ns e → move (inner see j) see s ≡ Breaks (suc m) (GoalNote (named not_constant) ∷ ns) e
    broke_is m ns e q = move_is j ∙ ap (move_denied n k s.given s.rows s.lost (Go b ∷ []) rest) q

    lasts_is : (m : ℕ) (ns : List Note) → inner see j has_no_pairs begun ≡ Lasts m ns → move (inner see j) see s ≡ Waits (suc m) (GoalNote (named not_constant) ∷ ns)
    lasts_is m ns q = move_is j ∙ ap (move_denied n k s.given s.rows s.lost (Go b ∷ []) rest) q

  -- what is told of the goal itself
  abbrev pub note : Tally
  note = taking (GoalNote (named not_constant))

  -- what is told of its search behind it
  note_more : (m : ℕ) (ns : List Note) (z : Tally) → both (record { steps = suc m; notes = GoalNote (named not_constant) ∷ ns }) z ≡ both note (both (record { steps = m; notes = ns }) z)
  note_more m ns z = tally_is (suc m + z.steps) (1 + (m + z.steps)) (GoalNote (named not_constant) ∷ ns ++ z.notes) (GoalNote (named not_constant) ∷ ns ++ z.notes) (omega arith) refl

  note_last : (m : ℕ) (ns : List Note) → ◌≡◌ {A = Tally} (record { steps = suc m; notes = GoalNote (named not_constant) ∷ ns }) (both note (record { steps = m; notes = ns }))
  note_last m ns = tally_is (suc m) (1 + m) (GoalNote (named not_constant) ∷ ns) (GoalNote (named not_constant) ∷ ns) (omega arith) refl

  -- it came to no answer: nothing is told behind it
  note_alone : (m : ℕ) (ns : List Note) (z : Tally) → both (record { steps = suc m; notes = GoalNote (named not_constant) ∷ ns ++ [] }) z ≡ both note (both (record { steps = m; notes = ns }) z)
  note_alone m ns z = ap (λ l. both (record { steps = suc m; notes = GoalNote (named not_constant) ∷ l }) z) (append-nil ns) ∙ note_more m ns z

  -- in the outermost search
  module _ (a : s.answers ≡ suc c.left) (g : s.given ≡ c.given) (v : Kept c s) (x : Tally) where
    at_first : (j m : ℕ) (r : Inner) → inner see j has_no_pairs begun ≡ r → Arrives c j (suc m) x s → (y : Tally) × (x ≡ both note y) × ComesOf c (λ u t. Comes c [] u t) waits n y r
    at_first j m (Refuted d ns p) q h =
        let e = refuted_is j d p ns q in
        let bh = behind_goes c j x (suc d) m (GoalNote (named not_constant) ∷ ns ++ []) s (on (n - d) p (Go b ∷ rest)) e h in (
          both (record { steps = d; notes = ns }) bh.0,
          bh.1 ∙ note_alone d ns bh.0,
          (
            bh.0,
            refl,
            subst (Comes c [] bh.0) (same_on (n - d) p (Go b ∷ rest)) (
              sym ea ∙ a,
              g,
              kept_on c j (suc d) _ s (on (n - d) p (Go b ∷ rest))
                  e v,
              record { inner_moves = j; moves = m; gives = bh.2.0 },
              bh.2.1,
            ),
          ),
        )
    at_first j m (Held d ns p) q h =
        let e = held_is j d p ns q in
        let ms = ns ++ back [] rest in
        let bh = behind_goes c j x (suc d) m (GoalNote (named not_constant) ∷ ms) s (on (n - d) p rest) e h in (
          both (record { steps = d; notes = ms }) bh.0,
          bh.1 ∙ note_more d ms bh.0,
          (
            bh.0,
            refl,
            subst (Comes c [] bh.0) (same_on (n - d) p rest) (
              sym ea ∙ a,
              g,
              kept_on c j (suc d) _ s (on (n - d) p rest) e v,
              record
                  { inner_moves = j; moves = m; gives = bh.2.0 },
              bh.2.1,
            ),
          ),
        )
    at_first j m (Broke d ns e) q h =
        let v : Move Task Answer = Breaks (suc d) (GoalNote (named not_constant) ∷ ns) e in
        let b = broke_is j d ns e q in
        (record { steps = d; notes = ns }, tally_after c j m s x v b h ∙ note_last d ns, (sym (pair_left (Over e) c.event s c.after (event_after c j m s x v b h)).0, refl))
    at_first j m (Lasts d ns) q h = absurd (let y = event_after c j m s x (Waits (suc d) (GoalNote (named not_constant) ∷ ns)) (lasts_is j d ns q) h in cc)

    outermost : (j m : ℕ) → Arrives c j m x s → (y : Tally) × (x ≡ both note y) × Comes c (waits ∷ []) y begun
    outermost j zero h = absurd (let q = h.0 in cc)
    outermost j (suc m) h = let f = at_first j m (inner see j has_no_pairs begun) refl h in (f.0, f.1, (refl, kept_inside v, j, f.2))

  -- in that of another negated goal
  module _ (w : Waiting) (ws : List Waiting) (a : s.answers ≡ 1) (v : Kept c s) (x : Tally) where
    one : k ≡ 0
    one = let z = sym ea ∙ a in omega (arith, z)

    abbrev of : Tally → State Task → Type 0
    of u t = Comes c ws u t

    at_inner : (j : ℕ) (r : Inner) → inner see j has_no_pairs begun ≡ r → TakesAtMost n r → ComesOf c of w s.steps x
        (inner see (suc j) has_no_pairs s) → (y : Tally) × (x ≡ both note y) × ComesOf c (λ u t. Comes c (w ∷ ws) u t) waits n y r
    at_inner j (Refuted d ns p) q l h =
        let e = refuted_is j d p ns q in
        let t = on (n - d) p (Go b ∷ rest) in
        let r = later_comes c of w s.steps (n - d) (suc d) (GoalNote (named not_constant) ∷ ns ++ []) x (inner see j has_no_pairs t) (omega (arith, et, l))
        (subst (λ y. ComesOf c of w s.steps x (inner_after (inner see j has_no_pairs) has_no_pairs s.row y)) e h) in (
          both (record { steps = d; notes = ns }) r.0,
          r.1 ∙ note_alone d ns r.0,
          (r.0, refl, subst (Comes c (w ∷ ws) r.0) (same_on (n - d) p (Go b ∷ rest)) (ap suc one, kept_on c j (suc d) _ s t e v, j, r.2)),
        )
    at_inner j (Held d ns p) q l h =
        let e = held_is j d p ns q in
        let t = on (n - d) p rest in
        let ms = ns ++ back [] rest in
        let r = later_comes c of w s.steps (n - d) (suc d) (GoalNote (named not_constant) ∷ ms) x (inner see j has_no_pairs t) (omega (arith, et, l))
        (subst (λ y. ComesOf c of w s.steps x (inner_after (inner see j has_no_pairs) has_no_pairs s.row y)) e h) in (
          both (record { steps = d; notes = ms }) r.0,
          r.1 ∙ note_more d ms r.0,
          (r.0, refl, subst (Comes c (w ∷ ws) r.0) (same_on (n - d) p rest) (ap suc one, kept_on c j (suc d) _ s t e v, j, r.2)),
        )
    at_inner j (Broke d ns e) q l h =
        let r = subst (λ y. ComesOf c of w s.steps x (inner_after (inner see j has_no_pairs) has_no_pairs s.row y)) (broke_is j d ns e q) h in
        (record { steps = d; notes = ns }, r.1 ∙ note_last d ns, (r.0, refl))
    at_inner j (Lasts d ns) q l h = absurd (subst (λ y. ComesOf c of w s.steps x (inner_after (inner see j has_no_pairs) has_no_pairs s.row y)) (lasts_is j d ns q) h)

    innermost : (j : ℕ) → ComesOf c of w s.steps x (inner see j has_no_pairs s) → (y : Tally) × (x ≡ both note y) × Comes c (waits ∷ w ∷ ws) y begun
    innermost zero h = absurd h
    innermost (suc j) h = let f = at_inner j (inner see j has_no_pairs begun) refl (inner_most see j has_no_pairs begun) h in (f.0, f.1, (refl, kept_inside v, j, f.2))

  pub begins_inside : (ws : List Waiting) (x : Tally) → Comes c ws x s → (y : Tally) × (x ≡ both note y) × Comes c (waits ∷ ws) y begun
  begins_inside [] x h = outermost h.0 h.1 h.2 x h.3.inner_moves h.3.moves (h.3.gives, h.4)
  begins_inside (w ∷ ws) x h = innermost w ws h.0 h.1 x h.2 h.3

-- the search of a negated goal comes to no answer, or to one that is final, with the steps and the goals in a row that are left; the one that waited goes on
module _ (c : Course) (w : Waiting) (ws : List Waiting) (s : State Task) (x : Tally) where
  abbrev seeing : ℕ → Task → View Task Answer
  seeing = seen_in c

  abbrev outer : Tally → State Task → Type 0
  outer u t = Comes c ws u t

  by_end : (v : Move Task Answer) (r : Inner) → ((j : ℕ) → inner_after (inner seeing j has_no_pairs) has_no_pairs s.row v ≡ r) →
      ((j : ℕ) → move (inner seeing j) seeing s ≡ v) → Comes c (w ∷ ws) x s → ComesOf c outer w s.steps x r
  by_end v r f e h = go h.2 h.3
    where
      go : (j : ℕ) → ComesOf c outer w s.steps x (inner seeing j has_no_pairs s) → ComesOf c outer w s.steps x r
      go zero o = absurd o
      go (suc j) o = subst (ComesOf c outer w s.steps x) (ap (inner_after (inner seeing j has_no_pairs) has_no_pairs s.row) (e j) ∙ f j) o

  none_left : s.steps - 0 ≡ s.steps
  none_left = omega arith

  pub is_refuted : ((j : ℕ) → move (inner seeing j) seeing s ≡ Stops NoMore) → Comes c (w ∷ ws) x s → Comes c ws x (goes_on w s.steps s.row (Go w.branch ∷ w.rest))
  is_refuted e h =
      let r = by_end (Stops NoMore) (Refuted 0 [] s.row) (λ j. refl) e h in
      subst (λ u. Comes c ws u (goes_on w s.steps s.row (Go w.branch ∷ w.rest))) (sym (r.1 ∙ none_both r.0)) (subst (λ i. Comes c ws r.0 (goes_on w i s.row (Go w.branch ∷ w.rest))) none_left r.2)

  pub is_held : (a : Answer) (ns : List Note) (t : State Task) → has_no_pairs a ≡ true → ((j : ℕ) → move (inner seeing j) seeing s ≡ Tells a ns t) →
      Comes c (w ∷ ws) x s → (y : Tally) × (x ≡ both (record { steps = 0; notes = back [] w.rest }) y) × Comes c ws y (goes_on w s.steps s.row w.rest)
  is_held a ns t f e h =
      let r = by_end (Tells a ns t) (Held 0 [] s.row) (λ j. ap (λ z. if z then Held 0 [] s.row else Broke 0 [] OpenNot) f) e h in
      (r.0, r.1, subst (λ i. Comes c ws r.0 (goes_on w i s.row w.rest)) none_left r.2)

  pub is_open : (a : Answer) (ns : List Note) (t : State Task) → has_no_pairs a ≡ false → ((j : ℕ) → move (inner seeing j) seeing s ≡ Tells a ns t) →
      Comes c (w ∷ ws) x s → (c.event ≡ Over OpenNot) × (x ≡ quiet)
  is_open a ns t f e h = by_end (Tells a ns t) (Broke 0 [] OpenNot) (λ j. ap (λ z. if z then Held 0 [] s.row else Broke 0 [] OpenNot) f) e h

  pub is_cut : ((j : ℕ) → move (inner seeing j) seeing s ≡ Stops NoMoreCut) → Comes c (w ∷ ws) x s → (c.event ≡ Over OpenNot) × (x ≡ quiet)
  is_cut e h = by_end (Stops NoMoreCut) (Broke 0 [] OpenNot) (λ j. refl) e h
