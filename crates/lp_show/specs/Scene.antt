-- What a term is shown by: the glossary, the variables in the order of their first places, and the bank.
use Rattle.std.specs.Prelude.{ℕ, suc, ◌+◌, ◌*◌, ◌-◌, List, [], ◌++◌, map, codes, decimal}
use Rattle.std.specs.Fmt.{signed_decimal}
use Rattle.lp_calculus.specs.Term.{Term, Atom, index, atom, abs, app, constant, integer, text, eigen, logic, param}
use Rattle.lp_term.specs.Nodes.{Nodes, tree}
use Rattle.lp_term.specs.Walk.{trees, size}
use Rattle.lp_term.specs.declared.node.TermId.{TermId}
use Rattle.lp_model.specs.Shown.{Entry, Piece, Abstracted, binder_name, bracketed, constant_text, entry_in, escaped, piece, place_of}
use Rattle.lp_show.specs.declared.write.Context.{Context}
use Rattle.lp_show.specs.Named.{all}

pub record Scene : Type 0 where
  pub entries : List Entry
  pub variables : List ℕ
  pub nodes : Nodes

abbrev pub scene_of : Context → Scene
scene_of c = record { entries = all c.names.now; variables = c.seen.now.keys; nodes = c.bank.now }

abbrev pub piece_of : Scene → (depth : ℕ) → Term → Piece
piece_of s d t = piece s.entries s.variables d t

abbrev pub piece_at : Scene → (depth term : ℕ) → Piece
piece_at s d t = piece_of s d (tree s.nodes t)

-- arguments, of which the last comes first in the list
abbrev pub pieces : Scene → (depth : ℕ) → List TermId → List Piece
pieces s d ids = map (piece_of s d) (trees s.nodes ids)

abbrev pub abstraction_text : Scene → (depth body : ℕ) → List ℕ
abstraction_text s d b = binder_name s.entries d ++ (codes "\\ " ++ (piece_at s (suc d) b).text)

abbrev pub abstraction_piece : Scene → (depth body : ℕ) → Piece
abstraction_piece s d b = record { shape = Abstracted; text = abstraction_text s d b }

abbrev pub atom_text : Scene → Atom → List ℕ
atom_text s (constant c ts) = constant_text (entry_in s.entries c)
atom_text s (integer z) = signed_decimal z
atom_text s (text bytes) = codes "\"" ++ (escaped bytes ++ codes "\"")
atom_text s (eigen k) = codes "#" ++ decimal k
atom_text s (logic x l) = codes "_" ++ decimal (suc (place_of x s.variables))
atom_text s (param k t) = []

-- the head of a term by itself
abbrev pub head_text : Scene → (depth : ℕ) → Term → List ℕ
head_text s d (index i) = binder_name s.entries (d - 1 - i)
head_text s d (atom a) = atom_text s a
head_text s d (abs b) = bracketed (binder_name s.entries d ++ (codes "\\ " ++ (piece_of s (suc d) b).text))
head_text s d (app t u) = []

-- what a head leaves to be written weighs less than this
abbrev pub head_weight : Term → ℕ
head_weight (index i) = 1
head_weight (atom a) = 1
head_weight (abs b) = 2 + 6 * size b
head_weight (app t u) = 1
