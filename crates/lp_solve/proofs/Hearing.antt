-- The notes that the watchers have heard are those of the definition's run.
use Rattle.std.proofs.Common.{◌≡◌, ◌≢◌, ◌+◌, ◌≤◌, inl, inr, true, ℕ, List, [], ◌∷◌, ◌++◌, map, Option, Some, None, refl, sym, ap, ◌∙◌, subst, arith}
use Rattle.lp_base.specs.declared.status.Status.{Status}
use Rattle.lp_base.specs.declared.status.Status.TheVariants as variant
use Rattle.lp_watch.specs.Crowd.{Place, crowd_after}
use Rattle.lp_watch.specs.Told.{crowd_after_all}
use Rattle.lp_model.specs.Branch.{Answer, Task}
use Rattle.lp_model.specs.Events.{Event, Gave, Over, first}
use Rattle.lp_model.specs.Flat.{Clause}
use Rattle.lp_model.specs.Search.{look}
use Rattle.lp_model.specs.Skeleton.{Note, State, run}
use Rattle.lp_model.specs.Unify.{unit_limit}
use Rattle.lp_model.specs.declared.answer.Answer as code
use Rattle.lp_model.specs.declared.answer.Event.TheVariants as event
use Rattle.lp_model.specs.declared.ending.Ending.{Ending}
use Rattle.lp_model.specs.declared.ending.Ending.TheVariants.{Deep}
use Rattle.lp_model.specs.declared.program.Declared.{Declared}
use Rattle.lp_search_laws.proofs.Stack.Ends.{stays_over}
use Rattle.lp_plain.specs.Between.{IsBetween}
use Rattle.lp_plain.specs.Hearing.{Hears, HearsPart, note_in}
use Rattle.lp_plain.specs.Held.{constants_of, ended}
use Rattle.lp_plain.specs.Stepping.{Relays, notes_told, run_told, way_back}
use Rattle.lp_plain.specs.declared.search.Search.{Search}
use Rattle.lp_plain.proofs.Relayed.{relays_more, relays_none, relays_over}
use Rattle.lp_lines.specs.Lines.{ending_status}
use Rattle.lp_lines.specs.Refusals.{IsRefusal, status_of}
use Rattle.lp_lines.specs.declared.refusal.Refusal.{Refusal}
use Rattle.lp_lines.specs.declared.refusal.Refusal.TheVariants.{Line, Memory}
use Rattle.lp_lines.proofs.Statuses.{is_fault}
use Rattle.std.specs.Prelude.{◌⊎◌, Vec}
use Rattle.std.specs.Global.{Global}
use Rattle.lp_solve.specs.Queries.{told_by}
use Rattle.lp_solve.specs.Watched.{ended_itself}
use Rattle.lp_solve.specs.declared.piece.Piece.{Piece}
use Rattle.lp_solve.specs.declared.piece.Piece.TheVariants as piece
use Rattle.lp_solve.specs.inner.Heard.{ComesTo, HeardPiece, HearsSoFar, IsNext, IsWatched, IsWatchedSoFar, Watched, at_first, one_answer}
use Rattle.lp_solve.proofs.Followed.{ended_deep}
use Rattle.lp_solve.proofs.Nexts.{gave_first, none_first}

-- behind the answers that a search has told: in the state in which the definition's run goes on, with its notes heard; or that run is not over
data Heard (cs : List Declared) (P : List Clause) (n j m : ℕ) (start : State Task) (before : List Place) (now : Search) (seen : List Place) : Type 0 where
  still : (k : ℕ) (s : State Task) (steps : ℕ) (notes : List Note) → IsBetween P n now s → ended now ≡ None → constants_of now ≡ cs → Relays (look unit_limit n P) start steps notes s →
      Hears cs notes before seen → (told_by P n j m start).ending ≡ (told_by P n j k s).ending → Heard cs P n j m start before now seen
  passed : (told_by P n j m start).ending ≡ None → Heard cs P n j m start before now seen

-- what is heard adds up, also a beginning of it
module _ (cs : List Declared) where
  both_heard : (ns ms : List Note) (old : List Place) → crowd_after_all (map (note_in cs) (ns ++ ms)) old ≡ crowd_after_all (map (note_in cs) ms) (crowd_after_all (map (note_in cs) ns) old)
  both_heard [] ms old = refl
  both_heard (n ∷ ns) ms old = both_heard ns ms (crowd_after (note_in cs n) old)

  hears_more : (ns ms : List Note) (old mid new : List Place) → Hears cs ns old mid → Hears cs ms mid new → Hears cs (ns ++ ms) old new
  hears_more ns ms old mid new h k = k ∙ ap (crowd_after_all (map (note_in cs) ms)) h ∙ sym (both_heard ns ms old)

  part_none : (ns : List Note) (old new : List Place) → new ≡ old → HearsPart cs ns old new
  part_none [] old new e = e
  part_none (n ∷ ns) old new e = inl e

  part_behind : (ns ms : List Note) (old mid new : List Place) → Hears cs ns old mid → HearsPart cs ms mid new → HearsPart cs (ns ++ ms) old new
  part_behind [] ms old mid new e h = subst (λ x. HearsPart cs ms x new) e h
  part_behind (n ∷ ns) ms old mid new e h = inr (inr (part_behind ns ms (crowd_after (note_in cs n) old) mid new e h))

  part_longer : (ns ms : List Note) (old new : List Place) → HearsPart cs ns old new → HearsPart cs (ns ++ ms) old new
  part_longer [] ms old new e = part_none ms old new e
  part_longer (n ∷ ns) ms old new (inl e) = inl e
  part_longer (n ∷ ns) ms old new (inr (inl r)) = inr (inl r)
  part_longer (n ∷ ns) ms old new (inr (inr h)) = inr (inr (part_longer ns ms (crowd_after (note_in cs n) old) new h))

module _ (cs : List Declared) (P : List Clause) (n j m : ℕ) (start : State Task) (before : List Place) where
  next_heard : (s t : Search) (a : code.Answer) (u v : List Place) → IsNext s (event.Answer a) t u v → Heard cs P n j m start before s u → Heard cs P n j m start before t v
  next_heard s t a u v next (passed e) = passed e
  next_heard s t a u v next (still k st steps notes between going same relays heard ending) = go (first (look unit_limit n P) j k st) refl
    where
      go : (o : Option (Event Answer × State Task)) → first (look unit_limit n P) j k st ≡ o → Heard cs P n j m start before t v
      go None h = passed (ending ∙ (none_first (look unit_limit n P) j k st h).1)
      go (Some (Gave x, w)) h =
          let got = next.told.search P n st between (λ d. absurd (cc)) (Gave x) w (record { inner_moves = j; moves = k; gives = h }) in
          let r = gave_first (look unit_limit n P) j k st w x h in
          let more = subst (λ c. Hears c (notes_told (look unit_limit n P) j k st) u v) same
          (next.heard going P n st between (λ d. absurd (cc)) (Gave x) w (record { inner_moves = j; moves = k; gives = h })) in
          still r.0 w _ (notes ++ notes_told (look unit_limit n P) j k st) got.1 next.going (next.constants ∙ same)
          (relays_more (look unit_limit n P) start st w steps notes x relays (record { inner_moves = j; moves = k; gives = h }))
          (hears_more cs notes (notes_told (look unit_limit n P) j k st) before u v heard more) (ending ∙ r.2)
      go (Some (Over o, w)) h = absurd ((next.told.search P n st between (λ d. absurd (cc)) (Over o) w (record { inner_moves = j; moves = k; gives = h })).0)

  all_heard : (first_search now : Search) (seen : List Place) → IsBetween P n first_search start → ended first_search ≡ None → constants_of first_search ≡ cs →
      Watched first_search before now seen → Heard cs P n j m start before now seen
  all_heard first_search now seen begun going same at_first =
      still m start 0 [] begun going same (relays_none (look unit_limit n P) start) refl refl
  all_heard first_search now seen begun going same (one_answer s t a u v next w) = next_heard s t a u v next (all_heard first_search s u begun going same w)

  -- the notes up to the end are those of the run, which is over
  module _ (o : Ending) (is_over : (told_by P n j m start).ending ≡ Some o) (fresh : way_back start.given start.answers start.stack ≡ []) where
    same_notes : (i : ℕ) (e : Ending) (notes : List Note) → (told_by P n i i start).ending ≡ Some e → run_told (look unit_limit n P) i i start ≡ notes → (told_by P n j m start).notes ≡ notes
    same_notes i e notes ends is =
        let l1 : j ≤ j + i = omega arith in
        let l2 : m ≤ m + i = omega arith in
        let l3 : i ≤ j + i = omega arith in
        let l4 : i ≤ m + i = omega arith in
        let mine = stays_over (look unit_limit n P) j (j + i) m (m + i) l1 l2 start o is_over in
        let other = stays_over (look unit_limit n P) i (j + i) i (m + i) l3 l4 start e ends in
        ap (λ w. w.notes) (sym mine ∙ other) ∙ ap (λ way. way ++ (told_by P n i i start).notes) (sym fresh) ∙ is

    end_heard : (s over : Search) (e : Ending) (u v : List Place) → IsNext s (event.Ended e) over u v → e ≢ Deep → Heard cs P n j m start before s u → Hears cs (told_by P n j m start).notes before v
    end_heard s over e u v next other (passed none) = absurd (let q = sym none ∙ is_over in cc)
    end_heard s over e u v next other (still k st steps notes between going same relays heard ending) = go (first (look unit_limit n P) j k st) refl
      where
        go : (x : Option (Event Answer × State Task)) → first (look unit_limit n P) j k st ≡ x → Hears cs (told_by P n j m start).notes before v
        go None h = absurd (let q = sym (ending ∙ (none_first (look unit_limit n P) j k st h).1) ∙ is_over in cc)
        go (Some (Gave x, w)) h = absurd ((next.told.search P n st between (λ d. absurd (other (ended_deep e d))) (Gave x) w (record { inner_moves = j; moves = k; gives = h })).0)
        go (Some (Over x, w)) h =
            let more = subst (λ c. Hears c (notes_told (look unit_limit n P) j k st) u v) same
            (next.heard going P n st between (λ d. absurd (other (ended_deep e d))) (Over x) w (record { inner_moves = j; moves = k; gives = h })) in
            let r = relays_over (look unit_limit n P) start st w steps notes x relays (record { inner_moves = j; moves = k; gives = h }) in
            let all = same_notes r.0 x (notes ++ notes_told (look unit_limit n P) j k st) r.3 r.1 in
            subst (λ ns. Hears cs ns before v) (sym all) (hears_more cs notes (notes_told (look unit_limit n P) j k st) before u v heard more)

    pub run_heard : (first_search : Search) (after : List Place) → IsBetween P n first_search start → ended first_search ≡ None → constants_of first_search ≡ cs →
        IsWatched first_search before after → Hears cs (told_by P n j m start).notes before after
    run_heard first_search after begun going same w =
        end_heard w.last w.over w.ending w.seen after w.ended w.other (all_heard first_search w.last w.seen begun going same w.watched)

    -- the notes up to a state in which the run goes on are the first of it
    first_notes : (k : ℕ) (s : State Task) (steps : ℕ) (notes : List Note) → Relays (look unit_limit n P) start steps notes s → (told_by P n j m start).ending ≡ (told_by P n j k s).ending →
        (rest : List Note) × ((told_by P n j m start).notes ≡ notes ++ rest)
    first_notes k s steps notes relays ending =
        let i = relays.enough + j in
        let l1 : relays.enough ≤ i = omega arith in
        let l2 : j ≤ i = omega arith in
        let l3 : k ≤ k = omega arith in
        let r = relays.runs i l1 k in
        let over = ap (λ w. w.ending) (stays_over (look unit_limit n P) j i k k l2 l3 s o (sym ending ∙ is_over)) ∙ sym ending ∙ is_over in
        let q = i + r.0 in
        let l4 : i ≤ q = omega arith in
        let l5 : r.0 ≤ q = omega arith in
        let same = stays_over (look unit_limit n P) i q r.0 q l4 l5 start o (r.3 ∙ over) in
        let way = way_back start.given start.answers start.stack in (
          run_told (look unit_limit n P) i k s,
          same_notes q o (notes ++ run_told (look unit_limit n P) i k s) (ap (λ w. w.ending) same ∙ r.3 ∙ over) (ap (λ w. way ++ w.notes) same ∙ r.1),
        )

    part_heard : (s : Search) (u v : List Place) → (v ≡ u) ⊎ HearsSoFar s u v → Heard cs P n j m start before s u → HearsPart cs (told_by P n j m start).notes before v
    part_heard s u v h (passed none) = absurd (let q = sym none ∙ is_over in cc)
    part_heard s u v (inl same_seen) (still k st steps notes between going same relays heard ending) =
        let r = first_notes k st steps notes relays ending in
        subst (λ ns. HearsPart cs ns before v) (sym r.1) (part_behind cs notes r.0 before u v heard (part_none cs r.0 u v same_seen))
    part_heard s u v (inr h) (still k st steps notes between going same relays heard ending) = go (first (look unit_limit n P) j k st) refl
      where
        go : (x : Option (Event Answer × State Task)) → first (look unit_limit n P) j k st ≡ x → HearsPart cs (told_by P n j m start).notes before v
        go None e = absurd (let q = sym (ending ∙ (none_first (look unit_limit n P) j k st e).1) ∙ is_over in cc)
        go (Some (Gave x, w)) e =
            let more = subst (λ c. HearsPart c (notes_told (look unit_limit n P) j k st) u v) same (h P n st between (Gave x) w (record { inner_moves = j; moves = k; gives = e })) in
            let r = gave_first (look unit_limit n P) j k st w x e in
            let all = first_notes r.0 w _ (notes ++ notes_told (look unit_limit n P) j k st)
            (relays_more (look unit_limit n P) start st w steps notes x relays (record { inner_moves = j; moves = k; gives = e })) (ending ∙ r.2) in
            subst (λ ns. HearsPart cs ns before v) (sym all.1)
            (part_longer cs (notes ++ notes_told (look unit_limit n P) j k st) all.0 before v (part_behind cs notes (notes_told (look unit_limit n P) j k st) before u v heard more))
        go (Some (Over x, w)) e =
            let more = subst (λ c. HearsPart c (notes_told (look unit_limit n P) j k st) u v) same (h P n st between (Over x) w (record { inner_moves = j; moves = k; gives = e })) in
            let r = relays_over (look unit_limit n P) start st w steps notes x relays (record { inner_moves = j; moves = k; gives = e }) in
            let all = same_notes r.0 x (notes ++ notes_told (look unit_limit n P) j k st) r.3 r.1 in
            subst (λ ns. HearsPart cs ns before v) (sym all) (part_behind cs notes (notes_told (look unit_limit n P) j k st) before u v heard more)

    pub run_heard_so_far : (first_search : Search) (after : List Place) → IsBetween P n first_search start → ended first_search ≡ None → constants_of first_search ≡ cs →
        IsWatchedSoFar first_search before after → HearsPart cs (told_by P n j m start).notes before after
    run_heard_so_far first_search after begun going same w = part_heard w.last w.seen after w.part (all_heard first_search w.last w.seen begun going same w.watched)

-- one piece more, and the last one
pub heard_piece : (first_search s t : Search) (before u v : List Place) (p : Piece) (lines : Vec ℕ Global) → p ≡ piece.Answer lines → HeardPiece s p t u v → Watched first_search before s u →
    Watched first_search before t v
heard_piece first_search s t before u v p lines is h w = let x = subst (λ p. HeardPiece s p t u v) is h in one_answer s t x.0 u v x.1 w

pub ended_piece : (first_search s t : Search) (before u v : List Place) (p : Piece) (e : Ending) → p ≡ piece.Over e → HeardPiece s p t u v → Watched first_search before s u → e ≢ Deep →
    IsWatched first_search before v
ended_piece first_search s t before u v p e is h w other =
    let x = subst (λ p. HeardPiece s p t u v) is h in
    record { last = s; over = t; seen = u; ending = e; watched = w; ended = x other; other = other }

pub come_to : (first_search s t : Search) (before u v : List Place) (p : Piece) (e : Ending) → p ≡ piece.Over e → HeardPiece s p t u v → Watched first_search before s u → HearsSoFar s u v →
    ComesTo first_search before v e
come_to first_search s t before u v p e is h w part =
    record { whole = ended_piece first_search s t before u v p e is h w; part = record { last = s; seen = u; watched = w; part = inr part } }

-- a run that came to an end of its own did not fail, and was not too deep
pub fault_lack : ended_itself variant.WriteFault ≡ true → ⊥
unfolding ended_itself
fault_lack e = cc

pub other_lack : (result : Status) → (result ≢ variant.WriteFault → result ≡ variant.Memory) → ended_itself result ≡ true → ⊥
unfolding ended_itself
other_lack result said e = elim (is_fault result) [
  | inl f ↦ (let q = subst (λ r. ended_itself r ≡ true) f e in cc)
  | inr n ↦ (let q = subst (λ r. ended_itself r ≡ true) (said n) e in cc)
]

pub other_end : (e : Ending) (result : Status) → (result ≢ variant.WriteFault → result ≡ ending_status e) → ended_itself result ≡ true → e ≢ Deep
unfolding ended_itself ending_status
other_end e result said h deep = elim (is_fault result) [
  | inl f ↦ (let q = subst (λ r. ended_itself r ≡ true) f h in cc)
  | inr n ↦ (let q = subst (λ r. ended_itself r ≡ true) (said n ∙ ap ending_status deep) h in cc)
]

-- nor was it refused
refused_status : (s : Status) → (s ≡ variant.Image) ⊎ (s ≡ variant.Source) ⊎ (s ≡ variant.Missing) ⊎ (s ≡ variant.Limit) ⊎ (s ≡ variant.ReadFault) → ended_itself s ≡ true → ⊥
unfolding ended_itself
refused_status s (inl f) e = let q = subst (λ r. ended_itself r ≡ true) f e in cc
refused_status s (inr (inl f)) e = let q = subst (λ r. ended_itself r ≡ true) f e in cc
refused_status s (inr (inr (inl f))) e = let q = subst (λ r. ended_itself r ≡ true) f e in cc
refused_status s (inr (inr (inr (inl f)))) e = let q = subst (λ r. ended_itself r ≡ true) f e in cc
refused_status s (inr (inr (inr (inr f)))) e = let q = subst (λ r. ended_itself r ≡ true) f e in cc

pub refused_lack : (r : Refusal) (result : Status) → IsRefusal r → (result ≢ variant.WriteFault → result ≡ status_of r) → ended_itself result ≡ true → ⊥
refused_lack Memory result k said e = other_lack result said e
refused_lack (Line s line) result k said e = elim (is_fault result) [
  | inl f ↦ fault_lack (subst (λ r. ended_itself r ≡ true) f e)
  | inr n ↦ refused_status s (kind k) (subst (λ r. ended_itself r ≡ true) (said n) e)
]
  where
    kind : IsRefusal (Line s line) → (s ≡ variant.Image) ⊎ (s ≡ variant.Source) ⊎ (s ≡ variant.Missing) ⊎ (s ≡ variant.Limit) ⊎ (s ≡ variant.ReadFault)
    kind (inl f) = inl f
    kind (inr (inl f)) = inr (inl f)
    kind (inr (inr (inl f))) = inr (inr (inl f))
    kind (inr (inr (inr (inl f)))) = inr (inr (inr (inl f)))
    kind (inr (inr (inr (inr f)))) = inr (inr (inr (inr f.0)))
