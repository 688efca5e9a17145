-- How far the copies have come, and one turn.
use Rattle.std.specs.Global.{Global}
use Rattle.std.specs.Prelude.{◌≡◌, ℕ, ◌+◌, ◌*◌, ◌-◌, ◌<◌, ◌≤◌, List, [], ◌∷◌, ◌++◌, map, length, reverse, Vec}
use Rattle.lp_copies.specs.Copies.{Copies, Copying as AreCopied, IsOpened, IsClosed}
use Rattle.lp_copies.specs.declared.copying.Copying.{Copying}
use Rattle.lp_copies.specs.declared.copying.Turn.{Turn}
use Rattle.lp_copies.specs.declared.copying.Turn.TheVariants.{Entered, Left, Ended}

abbrev pub lists_in : List (Vec ℕ Global) → List (List ℕ)
lists_in outs = map (λ out. out.items) outs

abbrev pub frames_of : Copying → List (ℕ × ℕ)
frames_of c = (c.at, c.next) ∷ reverse c.around.items

abbrev pub IsCopying : List (List ℕ) → Copying → Type 0
IsCopying uses c = AreCopied uses c.root c.left.items c.entered (frames_of c)

-- how much is left to do
abbrev pub copy_load : Copying → ℕ
copy_load c = 2 * (4096 - c.entered) + length (frames_of c)

-- what one turn does: a copy is entered, or the innermost is left
abbrev pub Turns : List (List ℕ) → Copying → Copying → Turn → Type 0
Turns uses old new (Entered m) = IsCopying uses new × (new.root ≡ old.root) × (copy_load new < copy_load old) × (new.left.items ≡ old.left.items) × (m < length uses) × (map (λ f. f.0) (frames_of new) ≡ m ∷ map (λ f. f.0) (frames_of old))
Turns uses old new (Left m) = IsCopying uses new × (new.root ≡ old.root) × (copy_load new < copy_load old) × (new.left.items ≡ old.left.items ++ m ∷ []) × (m < length uses) × (map (λ f. f.0) (frames_of old) ≡ m ∷ map (λ f. f.0) (frames_of new))
Turns uses old new (Ended m) = Copies uses (old.root ∷ []) new.left.items × (length new.left.items ≤ 4096) × (new.left.items ≡ old.left.items ++ m ∷ []) × (m < length uses) × (map (λ f. f.0) (frames_of old) ≡ m ∷ []) × ((all : List ℕ) → Copies uses (old.root ∷ []) all → all ≡ new.left.items)

-- what one turn does to the open copies
abbrev pub Moves : List (List ℕ) → List (ℕ × ℕ) → List (ℕ × ℕ) → Turn → Type 0
Moves uses old new (Entered m) = IsOpened uses old m new
Moves uses old new (Left m) = IsClosed uses old m new
Moves uses old new (Ended m) = IsClosed uses old m []
