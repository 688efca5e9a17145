-- An operator with its operands, as a piece of text.
use Rattle.std.specs.Prelude.{◌≡◌, ℕ, ◌+◌, ◌<◌, List, ◌++◌, length, Option, None, option_and_then, nat_eq, if◌then◌else◌, codes}
use Rattle.lp_standard.specs.declared.fixity.Fixity.{Fixity}
use Rattle.lp_calculus.specs.Term.{Term, index, atom, abs, app, constant}
use Rattle.lp_term.specs.Nodes.{tree}
use Rattle.lp_term.specs.Walk.{size}
use Rattle.lp_model.specs.Shown.{Entry, Piece, Operated, as_left, as_right, entry_in, operated}
use Rattle.lp_show.specs.declared.operator.Operands.{Operands}
use Rattle.lp_show.specs.declared.operator.Operands.TheVariants.{Behind, Before, Both}
use Rattle.lp_show.specs.declared.operator.Operator.{Operator}
use Rattle.lp_show.specs.Scene.{Scene, piece_at}

abbrev pub left_text : Fixity → ℕ → Piece → List ℕ
left_text f n p = as_left f n p.shape p.text

abbrev pub right_text : Fixity → ℕ → Piece → List ℕ
right_text f n p = as_right f n p.shape p.text

abbrev pub operands_text : Scene → (depth : ℕ) → Fixity → ℕ → List ℕ → Operands → List ℕ
operands_text s d f n name (Behind a) = name ++ (codes " " ++ right_text f n (piece_at s d a.0))
operands_text s d f n name (Before a) = left_text f n (piece_at s d a.0) ++ (codes " " ++ name)
operands_text s d f n name (Both a b) = left_text f n (piece_at s d a.0) ++ (codes " " ++ (name ++ (codes " " ++ right_text f n (piece_at s d b.0))))

abbrev pub operands_piece : Scene → (depth : ℕ) → Fixity → ℕ → List ℕ → Operands → Piece
operands_piece s d f n name o = record { shape = Operated f n; text = operands_text s d f n name o }

abbrev pub operation : Scene → (depth : ℕ) → Operator → Piece
operation s d o = operands_piece s d o.fixity o.number o.name.now o.operands

-- the operator form of a constant on these operands, where it has one
abbrev pub of_entry : Entry → List Piece → Option Piece
of_entry e ps = if nat_eq e.hidden 0 then option_and_then (λ x. operated x.0 x.1 e.name ps) e.fixity else None

abbrev pub of_head : List Entry → Term → List Piece → Option Piece
of_head es (atom (constant c ts)) ps = of_entry (entry_in es c) ps
of_head es t ps = None

-- the operands stand in the bank
abbrev pub within_bank : Scene → Operands → Type 0
within_bank s (Behind a) = a.0 < length s.nodes.terms
within_bank s (Before a) = a.0 < length s.nodes.terms
within_bank s (Both a b) = (a.0 < length s.nodes.terms) × (b.0 < length s.nodes.terms)

abbrev pub operands_size : Scene → Operands → ℕ
operands_size s (Behind a) = size (tree s.nodes a.0)
operands_size s (Before a) = size (tree s.nodes a.0)
operands_size s (Both a b) = size (tree s.nodes a.0) + size (tree s.nodes b.0)
