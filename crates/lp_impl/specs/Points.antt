-- Assumptions as they were at a point.
use Rattle.std.specs.Prelude.{◌≡◌, ◌≤◌, length, take}
use Rattle.lp_impl.specs.declared.assumptions.Point.{Point}
use Rattle.lp_impl.specs.Chains.{Held}

abbrev pub as_at : Point → Held → Held
as_at p a = record { entries = take p.entries a.entries; newest = p.newest }

-- the point was made on these assumptions, and none before it was gone back to since
abbrev pub IsPoint : Point → Held → Type 0
IsPoint p a = p.entries ≤ length a.entries

-- what they were at each point is kept
abbrev pub KeepsPoints : Held → Held → Type 0
KeepsPoints old new = (p : Point) → IsPoint p old → IsPoint p new × (as_at p new ≡ as_at p old)
