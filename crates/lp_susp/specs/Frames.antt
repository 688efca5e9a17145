-- What stands around a part of a term that is read back: abstractions, heads whose arguments are still to be read, and arguments.
use Rattle.std.specs.Prelude.{◌≡◌, ℕ, ◌+◌, ◌<◌, ◌≤◌, List, [], ◌∷◌, length, map, None}
use Rattle.lp_calculus.specs.Term.{Term, index, atom, abs, app, apply}
use Rattle.lp_calculus.specs.Convert.{head_step, leftmost_step}
use Rattle.lp_calculus.specs.Normal.{nodes}
use Rattle.lp_store.specs.declared.cell.CellId.{CellId}
use Rattle.lp_store.specs.Contents.{Contents, span}
use Rattle.lp_store.specs.Reading.{Reads, ReadAll}
use Rattle.lp_term.specs.Nodes.{Nodes, tree}
use Rattle.lp_susp.specs.declared.reading.Frame.{Frame}
use Rattle.lp_susp.specs.declared.reading.Frame.TheVariants.{Under, Head, Argument}
use Rattle.lp_susp.specs.declared.reading.State.{State}
use Rattle.lp_susp.specs.declared.reading.State.TheVariants.{Fresh, Known, Built}

-- the head is no abstraction
abbrev pub IsNeutral : Term → Type 0
IsNeutral (index i) = Unit {0}
IsNeutral (atom a) = Unit {0}
IsNeutral (abs b) = ⊥
IsNeutral (app t u) = IsNeutral t

abbrev pub numbers : List CellId → List ℕ
numbers ids = map (λ t. t.0) ids

-- the frame around the first term makes the second
abbrev pub Framed : Contents → Nodes → Frame → Term → Term → Type 0
Framed s b Under x w = w ≡ abs x
Framed s b (Head l) x w = (us : List Term) × ReadAll s (numbers (span s.items l.from l.count)) us × (w ≡ apply x us) × IsNeutral x
Framed s b (Argument d l) x w =
    (us : List Term) × ReadAll s (numbers (span s.items l.from l.count)) us × (w ≡ apply (app (tree b d.0) x) us) × IsNeutral (tree b d.0) × (leftmost_step (tree b d.0) ≡ None)

-- all frames, the outermost first
abbrev pub Plugged : Contents → Nodes → List Frame → Term → Term → Type 0
Plugged s b [] x w = x ≡ w
Plugged s b (f ∷ fs) x w = (y : Term) × Plugged s b fs x y × Framed s b f y w

-- what a frame names is there
abbrev pub FrameStands : Contents → Nodes → Frame → Type 0
FrameStands s b Under = Unit {0}
FrameStands s b (Head l) = (l.from + l.count ≤ length s.items) × (0 < l.count)
FrameStands s b (Argument d l) = (l.from + l.count ≤ length s.items) × (d.0 < length b.terms)

-- what the state is about is there
abbrev pub StateStands : Contents → Nodes → State → Type 0
StateStands s b (Fresh c) = c.0 < length s.cells
StateStands s b (Known c) = c.0 < length s.cells
StateStands s b (Built i) = i.0 < length b.terms

-- the term that the state is about: as it is read, as it is read and head-normal, or built and beta-normal
abbrev pub StateOf : Contents → Nodes → State → Term → Type 0
StateOf s b (Fresh c) x = Reads s c.0 x
StateOf s b (Known c) x = Reads s c.0 x × (head_step x ≡ None)
StateOf s b (Built i) x = (x ≡ tree b i.0) × (leftmost_step x ≡ None)

-- how many nodes the frame has that are built
abbrev pub nodes_of_frame : Nodes → Frame → ℕ
nodes_of_frame b Under = 1
nodes_of_frame b (Head l) = 0
nodes_of_frame b (Argument d l) = nodes (tree b d.0)

abbrev pub nodes_around : Nodes → List Frame → ℕ
nodes_around b [] = 0
nodes_around b (f ∷ fs) = nodes_of_frame b f + nodes_around b fs

-- and how many the state has that are built
abbrev pub nodes_built : Nodes → State → ℕ
nodes_built b (Fresh c) = 0
nodes_built b (Known c) = 0
nodes_built b (Built i) = nodes (tree b i.0)
