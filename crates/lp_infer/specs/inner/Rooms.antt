-- Undeclared names within so many nodes of a node. A part of a text is below its node, but this is not asked of what is read: a way that comes back to a
-- node binds no fewer names, so that no way is longer than there are nodes.
use Rattle.std.specs.Prelude.{◌≡◌, ℕ, zero, suc, ◌+◌, ◌⊎◌, List, [], ◌∷◌, Option, Some, false, Contains, slice_get}
use Rattle.lp_base.specs.declared.place.Spot.{Spot}
use Rattle.lp_syntax.specs.declared.text.RawNode.{RawNode}
use Rattle.lp_syntax.specs.declared.text.RawNode.TheVariants.{Name, App, Abs}
use Rattle.lp_sig.specs.declared.signature.Signature.{Signature}
use Rattle.lp_sig.specs.Pieces.{spelled}
use Rattle.lp_infer.specs.Names.{note_words, IsNoConstant, IsNoKind}
use Rattle.lp_infer.specs.Scope.{binds}
use Rattle.lp_infer.specs.inner.Turns.{turns_of}
use Rattle.lp_infer.specs.declared.names.Task.{Task}
use Rattle.lp_infer.specs.declared.names.Task.TheVariants.{Visit, Leave}

-- an undeclared name at a node or in one of its parts, where it is told what is undeclared in these
abbrev pub At : Signature → List ℕ → (List (List ℕ) → ℕ → Spot → Type 0) → List (List ℕ) → Option RawNode → Spot → Type 0
At sig text below scope (Some (Name t)) s = (s ≡ t) × (binds scope (spelled text t) ≡ false) × IsNoConstant sig (spelled text t)
At sig text below scope (Some (App f a)) s = below scope f s ⊎ below scope a s
At sig text below scope (Some (Abs x given b)) s = (Contains (note_words given) s × IsNoKind sig (spelled text s)) ⊎ below (spelled text x ∷ scope) b s
At sig text below scope _ s = ⊥

abbrev pub Within : Signature → List ℕ → List RawNode → (room : ℕ) → List (List ℕ) → ℕ → Spot → Type 0
Within sig text nodes zero scope n s = ⊥
Within sig text nodes (suc k) scope n s = At sig text (Within sig text nodes k) scope (slice_get nodes n) s

-- how many turns tasks take at most
abbrev pub turns : List Task → ℕ
turns [] = 0
turns (Visit n room ∷ ts) = turns_of room + turns ts
turns (Leave x outside ∷ ts) = suc (turns ts)
