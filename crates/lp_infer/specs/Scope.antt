-- The undeclared names of a text, each in the scope of its abstractions.
use Rattle.std.specs.Prelude.{◌≡◌, ℕ, ◌≤◌, ◌||◌, List, [], ◌∷◌, Bool, false, Option, Some, None, Contains, slice_get}
use Rattle.std.specs.Str.{bytes_eq}
use Rattle.lp_base.specs.declared.place.Spot.{Spot}
use Rattle.lp_syntax.specs.declared.text.RawNode.{RawNode}
use Rattle.lp_syntax.specs.declared.text.RawNode.TheVariants.{Name, App, Abs}
use Rattle.lp_syntax.specs.declared.text.RawType.{RawType}
use Rattle.lp_sig.specs.declared.signature.Signature.{Signature}
use Rattle.lp_sig.specs.Pieces.{spelled}
use Rattle.lp_infer.specs.Names.{note_words, IsNoConstant, IsNoKind}

-- whether one of these abstractions binds a name
abbrev pub binds : List (List ℕ) → List ℕ → Bool
binds [] name = false
binds (x ∷ xs) name = bytes_eq name x || binds xs name

-- below node n, under the abstractions of these names, an undeclared name stands at s: a name that is not bound, or a word of an annotation
pub data Undeclared (sig : Signature) (text : List ℕ) (nodes : List RawNode) : List (List ℕ) → ℕ → Spot → Type 0 where
  at_name : {bound : List (List ℕ)} {n : ℕ} {s : Spot} → slice_get nodes n ≡ Some (Name s) → binds bound (spelled text s) ≡ false → IsNoConstant sig (spelled text s) → Undeclared sig text nodes bound n s
  at_word : {bound : List (List ℕ)} {n : ℕ} {x : Spot} {note : Option RawType} {b : ℕ} {s : Spot} → slice_get nodes n ≡ Some (Abs x note b) → Contains (note_words note) s → IsNoKind sig (spelled text s) → Undeclared sig text nodes bound n s
  in_head : {bound : List (List ℕ)} {n f a : ℕ} {s : Spot} → slice_get nodes n ≡ Some (App f a) → Undeclared sig text nodes bound f s → Undeclared sig text nodes bound n s
  in_argument : {bound : List (List ℕ)} {n f a : ℕ} {s : Spot} → slice_get nodes n ≡ Some (App f a) → Undeclared sig text nodes bound a s → Undeclared sig text nodes bound n s
  in_body : {bound : List (List ℕ)} {n : ℕ} {x : Spot} {note : Option RawType} {b : ℕ} {s : Spot} → slice_get nodes n ≡ Some (Abs x note b) → Undeclared sig text nodes (spelled text x ∷ bound) b s → Undeclared sig text nodes bound n s

-- the first undeclared name of a text, by its place
abbrev pub IsFirstUndeclared : Signature → List ℕ → List RawNode → ℕ → Option Spot → Type 0
IsFirstUndeclared sig text nodes root None = (s : Spot) → Undeclared sig text nodes [] root s → ⊥
IsFirstUndeclared sig text nodes root (Some f) = Undeclared sig text nodes [] root f × ((s : Spot) → Undeclared sig text nodes [] root s → f.from ≤ s.from)
