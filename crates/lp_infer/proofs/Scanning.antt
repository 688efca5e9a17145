-- The first undeclared name is found: each task that is done keeps what `Scanned` says. A name that is bound has a level, and the levels are those of
-- the abstractions that are open.
use Rattle.std.proofs.Common.{◌≡◌, ℕ, suc, length, List, [], ◌∷◌, ◌++◌, reverse, refl, sym, ap, subst, ◌∙◌, Bool, true, false, Option, Some, None, inl, inr, true≢false, Result, Ok, Err}
use Rattle.std.specs.Prelude.{Contains, ◌⊎◌, ◌||◌, IfSome, IfOk, slice_get, if◌then◌else◌}
use Rattle.std.specs.Map.{lookup}
use Rattle.lp_base.specs.declared.memory.Memory.{Memory}
use Rattle.std.specs.Str.{bytes_eq}
use Rattle.std.proofs.lemmas.Slice.Eq.{bytes_eq-Decides}
use Rattle.lp_lemmas.proofs.Lists.{reverse_pushed}
use Rattle.lp_base.specs.declared.place.Spot.{Spot}
use Rattle.lp_syntax.specs.declared.text.RawNode.{RawNode}
use Rattle.lp_syntax.specs.declared.text.RawNode.TheVariants.{Name, Known, Number, Text, App, Abs}
use Rattle.lp_syntax.specs.declared.text.RawType.{RawType}
use Rattle.lp_sig.specs.declared.signature.Signature.{Signature}
use Rattle.lp_sig.specs.Pieces.{spelled}
use Rattle.lp_infer.specs.Names.{note_words, IsNoConstant, IsNoKind}
use Rattle.lp_infer.specs.Scope.{binds, Undeclared, IsFirstUndeclared}
use Rattle.lp_infer.specs.inner.Rooms.{At, Within}
use Rattle.lp_infer.proofs.Shortest.{undeclared_within, within_undeclared}
use Rattle.lp_infer.specs.Scanning.{Covers, Finds, level_in, level_at, HasLevel, IsEntered, is_level, rest, Tracks, AreOpen, Pending, Scanned}
use Rattle.lp_infer.specs.declared.names.Names.{Names}
use Rattle.lp_infer.specs.declared.names.Task.{Task}
use Rattle.lp_infer.specs.declared.names.Task.TheVariants.{Visit, Leave}
use Rattle.lp_infer.proofs.Finding.{finds_none}

-- levels and abstractions

has_no_level : (o : Option ℕ) → is_level o ≡ false → o ≡ None
has_no_level None e = refl
has_no_level (Some l) e = absurd (true≢false e)

entered_by : (scope : List (List ℕ)) (x name : List ℕ) (level : ℕ) (o : Option ℕ) (t : Bool) → bytes_eq name x ≡ t → is_level o ≡ binds scope name → is_level (if t then Some level else o) ≡ (t || binds scope name)
entered_by scope x name level o true same known = refl
entered_by scope x name level o false apart known = known

tracks_inside : (scope : List (List ℕ)) (x : List ℕ) (level : ℕ) (old new : Names) → Tracks scope old → HasLevel x (Some level) old new → Tracks (x ∷ scope) new
tracks_inside scope x level old new known has = λ name.
    ap is_level (has name) ∙ entered_by scope x name level (level_in old name) (bytes_eq name x) refl (known name)

left_by : (scope : List (List ℕ)) (x name : List ℕ) (outside o : Option ℕ) (t : Bool) → bytes_eq name x ≡ t → is_level outside ≡ binds scope x → is_level o ≡ (t || binds scope name) → is_level (if t then outside else o) ≡ binds scope name
left_by scope x name outside o true same known all = known ∙ ap (binds scope) (sym ((bytes_eq-Decides name x).0 same))
left_by scope x name outside o false apart known all = all

tracks_outside : (scope : List (List ℕ)) (x : List ℕ) (outside : Option ℕ) (old new : Names) → Tracks (x ∷ scope) old → is_level outside ≡ binds scope x → HasLevel x outside old new → Tracks scope new
tracks_outside scope x outside old new known is has = λ name.
    ap is_level (has name) ∙ left_by scope x name outside (level_in old name) (bytes_eq name x) refl is (known name)

level_same : (old new : Names) → new.bound ≡ old.bound → (name : List ℕ) → level_in new name ≡ level_in old name
unfolding level_in
level_same old new e name = ap (λ b. level_at (lookup (λ k. bytes_eq name k.items) b.entries)) e

tracks_same : (scope : List (List ℕ)) (old new : Names) → new.bound ≡ old.bound → Tracks scope old → Tracks scope new
tracks_same scope old new e known = λ name. ap is_level (level_same old new e name) ∙ known name

-- an abstraction is entered behind its annotation
pub entered_past : (x : List ℕ) (old mid new : Names) (r : Result (Option ℕ) Memory) → mid.bound ≡ old.bound → IfOk r (IsEntered x mid new) → IfOk r (IsEntered x old new)
entered_past x old mid new (Err e) same h = tt
entered_past x old mid new (Ok outside) same h = record {
  level = h.level;
  inside = λ other. h.inside other ∙ ap (λ o. if bytes_eq other x then Some h.level else o) (level_same old mid same other);
  before = h.before ∙ level_same old mid same x;
}

-- two tasks on top
pub reverse_two : {X : Type 0} (xs ys zs : List X) (a b : X) → ys ≡ xs ++ a ∷ [] → zs ≡ ys ++ b ∷ [] → reverse zs ≡ b ∷ a ∷ reverse xs
reverse_two xs ys zs a b e f = reverse_pushed zs ys b f ∙ ap (λ l. b ∷ l) (reverse_pushed ys xs a e)

module _ (sig : Signature) (text : List ℕ) (nodes : List RawNode) where
  -- what is no name, no application and no abstraction has no names below it
  pub no_names : (node : RawNode) → ((s : Spot) → node ≡ Name s → ⊥) → ((f a : ℕ) → node ≡ App f a → ⊥) → ((x : Spot) (given : Option RawType) (b : ℕ) → node ≡ Abs x given b → ⊥) → (below : List (List ℕ) → ℕ → Spot → Type 0) (scope : List (List ℕ)) (t : Spot) → At sig text below scope (Some node) t → ⊥
  no_names (Name s) a b c below scope t h = a s refl
  no_names (Known k s) a b c below scope t h = h
  no_names (Number z s) a b c below scope t h = h
  no_names (Text s) a b c below scope t h = h
  no_names (App f x) a b c below scope t h = b f x refl
  no_names (Abs x given y) a b c below scope t h = c x given y refl

  -- what was found stays right
  right_by : (root : ℕ) (old new : Option Spot) (Q : Spot → Type 0) → ((s : Spot) → Q s → Undeclared sig text nodes [] root s) → (new ≡ old) ⊎ ((s : Spot) × (new ≡ Some s) × Q s) → IfSome old (λ f. Undeclared sig text nodes [] root f) → IfSome new (λ f. Undeclared sig text nodes [] root f)
  right_by root old new Q g (inl e) right = subst (λ o. IfSome o (λ f. Undeclared sig text nodes [] root f)) (sym e) right
  right_by root old new Q g (inr (s, e, q)) right = subst (λ o. IfSome o (λ f. Undeclared sig text nodes [] root f)) (sym e) (g s q)

  all_by : (scope : List (List ℕ)) (ts : List Task) (old new : Option Spot) (Q P : Spot → Type 0) → Finds Q old new → (s : Spot) → (P s → Q s ⊎ Pending sig text nodes scope ts s) → Covers old s ⊎ P s → Covers new s ⊎ Pending sig text nodes scope ts s
  all_by scope ts old new Q P found s h (inl c) = inl (found.keeps s c)
  all_by scope ts old new Q P found s h (inr p) = by_part (h p) where
    by_part : Q s ⊎ Pending sig text nodes scope ts s → Covers new s ⊎ Pending sig text nodes scope ts s
    by_part (inl q) = inl (found.covers s q)
    by_part (inr p) = inr p

  -- a task is done: some spots were looked at, and other tasks took its place
  moved : (root : ℕ) (old new : Names) (tasks more : List Task) (S : Scanned sig text nodes root old tasks) (scope : List (List ℕ)) (Q : Spot → Type 0) →
      Tracks scope new → AreOpen text scope more → Finds Q old.fault new.fault →
      ((s : Spot) → Q s → Pending sig text nodes S.scope tasks s) →
      ((s : Spot) → Pending sig text nodes scope more s → Pending sig text nodes S.scope tasks s) →
      ((s : Spot) → Pending sig text nodes S.scope tasks s → Q s ⊎ Pending sig text nodes scope more s) →
      Scanned sig text nodes root new more
  moved root old new tasks more S scope Q tracks are_open found f g h = record {
    scope = scope;
    tracks = tracks;
    are_open = are_open;
    right = right_by root old.fault new.fault Q (λ s q. S.within s (f s q)) found.is S.right;
    within = λ s p. S.within s (g s p);
    all = λ s u. all_by scope more old.fault new.fault Q (Pending sig text nodes S.scope tasks) found s (h s) (S.all s u);
  }

  abbrev nothing : Spot → Type 0
  nothing s = ⊥

  -- a node that is too far away
  nothing_parted : (scope : List (List ℕ)) (ts : List Task) (s : Spot) → ⊥ ⊎ Pending sig text nodes scope ts s → nothing s ⊎ Pending sig text nodes scope ts s
  nothing_parted scope ts s (inl u) = absurd u
  nothing_parted scope ts s (inr p) = inr p

  pub past_nothing : (root : ℕ) (names : Names) (n room : ℕ) (ts : List Task) → room ≡ 0 → Scanned sig text nodes root names (Visit n room ∷ ts) → Scanned sig text nodes root names ts
  past_nothing root names n room ts e T =
      let S = subst (λ r. Scanned sig text nodes root names (Visit n r ∷ ts)) e T in
      moved root names names (Visit n 0 ∷ ts) ts S S.scope nothing S.tracks S.are_open
      (finds_none nothing names.fault names.fault refl (λ s q. q)) (λ s q. absurd q) (λ s p. inr p) (λ s p. nothing_parted S.scope ts s p)

  module _ (k : ℕ) where
    abbrev Below : List (List ℕ) → Option RawNode → Spot → Type 0
    Below scope o s = At sig text (Within sig text nodes k) scope o s

    -- a node below which no name stands
    empty_parted : (scope : List (List ℕ)) (n : ℕ) (ts : List Task) (s : Spot) (o : Option RawNode) → slice_get nodes n ≡ o → ((t : Spot) → Below scope o t → ⊥) → Below scope (slice_get nodes n) s ⊎ Pending sig text nodes scope ts s → nothing s ⊎ Pending sig text nodes scope ts s
    empty_parted scope n ts s o e none (inl u) = absurd (none s (subst (λ o. Below scope o s) e u))
    empty_parted scope n ts s o e none (inr p) = inr p

    pub past_empty : (root : ℕ) (old new : Names) (n : ℕ) (ts : List Task) (o : Option RawNode) → slice_get nodes n ≡ o →
        ((scope : List (List ℕ)) (t : Spot) → Below scope o t → ⊥) → new.fault ≡ old.fault → new.bound ≡ old.bound → Scanned sig text nodes root old
        (Visit n (suc k) ∷ ts) → Scanned sig text nodes root new ts
    past_empty root old new n ts o e none fault bound S =
        moved root old new (Visit n (suc k) ∷ ts) ts S S.scope nothing (tracks_same S.scope old new bound S.tracks) S.are_open
        (finds_none nothing old.fault new.fault fault (λ s q. q)) (λ s q. absurd q) (λ s p. inr p) (λ s p. empty_parted S.scope n ts s o e (none S.scope) p)

    -- a name
    name_parted : (scope : List (List ℕ)) (names : Names) (n : ℕ) (t : Spot) (ts : List Task) (s : Spot) → Tracks scope names → slice_get nodes n ≡ Some
        (Name t) → Below scope (slice_get nodes n) s ⊎ Pending sig text nodes scope ts s →
        ((s ≡ t) × (level_in names (spelled text s) ≡ None) × IsNoConstant sig (spelled text s)) ⊎ Pending sig text nodes scope ts s
    name_parted scope names n t ts s known e (inl u) = inl (found (subst (λ o. Below scope o s) e u)) where
      found : Below scope (Some (Name t)) s → (s ≡ t) × (level_in names (spelled text s) ≡ None) × IsNoConstant sig (spelled text s)
      found b = (b.0, has_no_level (level_in names (spelled text s)) (known (spelled text s) ∙ ap (λ x. binds scope (spelled text x)) b.0 ∙ b.1), subst (λ x. IsNoConstant sig (spelled text x)) (sym b.0) b.2)
    name_parted scope names n t ts s known e (inr p) = inr p

    name_pending : (scope : List (List ℕ)) (names : Names) (n : ℕ) (t : Spot) (s : Spot) → Tracks scope names → slice_get nodes n ≡ Some (Name t) → (s ≡ t) × (level_in names (spelled text s) ≡ None) × IsNoConstant sig (spelled text s) → Below scope (slice_get nodes n) s
    name_pending scope names n t s known e q =
        subst (λ o. Below scope o s) (sym e)
        (q.0, subst (λ x. binds scope (spelled text x) ≡ false) q.0 (sym (known (spelled text s)) ∙ ap is_level q.1), subst (λ x. IsNoConstant sig (spelled text x)) q.0 q.2)

    pub past_name : (root : ℕ) (old new : Names) (n : ℕ) (t : Spot) (ts : List Task) → slice_get nodes n ≡ Some (Name t) → Finds
        (λ s. (s ≡ t) × (level_in old (spelled text s) ≡ None) × IsNoConstant sig (spelled text s)) old.fault new.fault → new.bound ≡ old.bound →
        Scanned sig text nodes root old (Visit n (suc k) ∷ ts) → Scanned sig text nodes root new ts
    past_name root old new n t ts e found bound S =
        moved root old new (Visit n (suc k) ∷ ts) ts S S.scope (λ s. (s ≡ t) × (level_in old (spelled text s) ≡ None) × IsNoConstant sig (spelled text s)) (tracks_same S.scope old new bound S.tracks) S.are_open found
        (λ s q. inl (name_pending S.scope old n t s S.tracks e q)) (λ s p. inr p) (λ s p. name_parted S.scope old n t ts s S.tracks e p)

    -- an application
    application_parted : (scope : List (List ℕ)) (n f a : ℕ) (ts : List Task) (s : Spot) → slice_get nodes n ≡ Some (App f a) → Below scope (slice_get nodes n) s ⊎ Pending sig text nodes scope ts s →
        nothing s ⊎ (Within sig text nodes k scope f s ⊎ (Within sig text nodes k scope a s ⊎ Pending sig text nodes scope ts s))
    application_parted scope n f a ts s e (inl u) = parts (subst (λ o. Below scope o s) e u) where
      parts : Within sig text nodes k scope f s ⊎ Within sig text nodes k scope a s → nothing s ⊎ (Within sig text nodes k scope f s ⊎ (Within sig text nodes k scope a s ⊎ Pending sig text nodes scope ts s))
      parts (inl u) = inr (inl u)
      parts (inr u) = inr (inr (inl u))
    application_parted scope n f a ts s e (inr p) = inr (inr (inr p))

    application_pending : (scope : List (List ℕ)) (n f a : ℕ) (ts : List Task) (s : Spot) → slice_get nodes n ≡ Some (App f a) →
        Within sig text nodes k scope f s ⊎ (Within sig text nodes k scope a s ⊎ Pending sig text nodes scope ts s) → Below scope (slice_get nodes n) s ⊎ Pending sig text nodes scope ts s
    application_pending scope n f a ts s e (inl u) = inl (subst (λ o. Below scope o s) (sym e) (inl u))
    application_pending scope n f a ts s e (inr (inl u)) = inl (subst (λ o. Below scope o s) (sym e) (inr u))
    application_pending scope n f a ts s e (inr (inr p)) = inr p

    pub past_application : (root : ℕ) (names : Names) (n f a : ℕ) (ts : List Task) → slice_get nodes n ≡ Some (App f a) → Scanned sig text nodes root names (Visit n (suc k) ∷ ts) → Scanned sig text nodes root names (Visit f k ∷ Visit a k ∷ ts)
    past_application root names n f a ts e S =
        moved root names names (Visit n (suc k) ∷ ts) (Visit f k ∷ Visit a k ∷ ts) S S.scope nothing S.tracks S.are_open
        (finds_none nothing names.fault names.fault refl (λ s q. q)) (λ s q. absurd q) (λ s p. application_pending S.scope n f a ts s e p) (λ s p. application_parted S.scope n f a ts s e p)

    -- an abstraction
    abstraction_parted : (scope : List (List ℕ)) (n : ℕ) (x : Spot) (given : Option RawType) (b : ℕ) (ts : List Task) (s : Spot) → slice_get nodes n ≡
        Some (Abs x given b) → Below scope (slice_get nodes n) s ⊎ Pending sig text nodes scope ts s →
        (Contains (note_words given) s × IsNoKind sig (spelled text s)) ⊎ (Within sig text nodes k (spelled text x ∷ scope) b s ⊎ Pending sig text nodes scope ts s)
    abstraction_parted scope n x given b ts s e (inl u) = parts (subst (λ o. Below scope o s) e u) where
      parts : (Contains (note_words given) s × IsNoKind sig (spelled text s)) ⊎ Within sig text nodes k (spelled text x ∷ scope) b s →
          (Contains (note_words given) s × IsNoKind sig (spelled text s)) ⊎ (Within sig text nodes k (spelled text x ∷ scope) b s ⊎ Pending sig text nodes scope ts s)
      parts (inl w) = inl w
      parts (inr u) = inr (inl u)
    abstraction_parted scope n x given b ts s e (inr p) = inr (inr p)

    abstraction_pending : (scope : List (List ℕ)) (n : ℕ) (x : Spot) (given : Option RawType) (b : ℕ) (ts : List Task) (s : Spot) → slice_get nodes n ≡
        Some (Abs x given b) → Within sig text nodes k (spelled text x ∷ scope) b s ⊎ Pending sig text nodes scope ts s → Below scope (slice_get nodes n) s ⊎ Pending sig text nodes scope ts s
    abstraction_pending scope n x given b ts s e (inl u) = inl (subst (λ o. Below scope o s) (sym e) (inr u))
    abstraction_pending scope n x given b ts s e (inr p) = inr p

    pub past_abstraction : (root : ℕ) (old new : Names) (n : ℕ) (x : Spot) (given : Option RawType) (b : ℕ) (outside : Option ℕ) (ts : List Task) →
        slice_get nodes n ≡ Some (Abs x given b) → Finds (λ s. Contains (note_words given) s × IsNoKind sig (spelled text s)) old.fault new.fault →
        IsEntered (spelled text x) old new outside → Scanned sig text nodes root old (Visit n (suc k) ∷ ts) → Scanned sig text nodes root new
        (Visit b k ∷ Leave x outside ∷ ts)
    past_abstraction root old new n x given b outside ts e found entered S =
        moved root old new (Visit n (suc k) ∷ ts) (Visit b k ∷ Leave x outside ∷ ts) S (spelled text x ∷ S.scope) (λ s. Contains (note_words given) s × IsNoKind sig (spelled text s))
        (tracks_inside S.scope (spelled text x) entered.level old new S.tracks entered.inside)
        (refl, ap is_level entered.before ∙ S.tracks (spelled text x), S.are_open)
        found
        (λ s q. inl (subst (λ o. Below S.scope o s) (sym e) (inl q))) (λ s p. abstraction_pending S.scope n x given b ts s e p) (λ s p. abstraction_parted S.scope n x given b ts s e p)

  -- the end of an abstraction
  left_scope : (root : ℕ) (old new : Names) (x : Spot) (outside : Option ℕ) (ts : List Task) (scope : List (List ℕ)) → Tracks scope old → AreOpen text scope (Leave x outside ∷ ts) → HasLevel (spelled text x) outside old new → Tracks (rest scope) new × AreOpen text (rest scope) ts
  left_scope root old new x outside ts [] known o has = absurd o
  left_scope root old new x outside ts (y ∷ ys) known o has =
      (tracks_outside ys y outside old new known o.1 (subst (λ z. HasLevel z outside old new) (sym o.0) has), o.2)

  pub past_end : (root : ℕ) (old new : Names) (x : Spot) (outside : Option ℕ) (ts : List Task) → new.fault ≡ old.fault → HasLevel (spelled text x) outside old new → Scanned sig text nodes root old (Leave x outside ∷ ts) → Scanned sig text nodes root new ts
  past_end root old new x outside ts fault has S =
      let left = left_scope root old new x outside ts S.scope S.tracks S.are_open has in
      moved root old new (Leave x outside ∷ ts) ts S (rest S.scope) nothing left.0 left.1
      (finds_none nothing old.fault new.fault fault (λ s q. q)) (λ s q. absurd q) (λ s p. p) (λ s p. inr p)

  -- before the first node
  pub begun : (root : ℕ) (names : Names) → names.fault ≡ None → ((name : List ℕ) → level_in names name ≡ None) → Scanned sig text nodes root names (Visit root (length nodes) ∷ [])
  begun root names fault levels = record {
    scope = [];
    tracks = λ name. ap is_level (levels name);
    are_open = tt;
    right = subst (λ o. IfSome o (λ f. Undeclared sig text nodes [] root f)) (sym fault) tt;
    within = λ s p. first s p;
    all = λ s u. inr (inl (undeclared_within sig text nodes s root u));
  } where
    first : (s : Spot) → Within sig text nodes (length nodes) [] root s ⊎ ⊥ → Undeclared sig text nodes [] root s
    first s (inl u) = within_undeclared sig text nodes s (length nodes) [] root u
    first s (inr p) = absurd p

  none_pending : (f : Option Spot) (s : Spot) → Covers f s ⊎ ⊥ → Covers f s
  none_pending f s (inl c) = c
  none_pending f s (inr p) = absurd p

  ended_by : (root : ℕ) (fault : Option Spot) → IfSome fault (λ f. Undeclared sig text nodes [] root f) → ((s : Spot) → Undeclared sig text nodes [] root s → Covers fault s) → IsFirstUndeclared sig text nodes root fault
  ended_by root None right all = all
  ended_by root (Some f) right all = (right, all)

  -- behind the last task
  pub ended : (root : ℕ) (names : Names) → Scanned sig text nodes root names [] → IsFirstUndeclared sig text nodes root names.fault
  ended root names S = ended_by root names.fault S.right (λ s u. none_pending names.fault s (S.all s u))
