-- A record at work with its kinds and constants renumbered, and moved up: what stands in its registers, its goals and its blocks.
use Rattle.std.specs.Prelude.{◌≡◌, ℕ, ◌+◌, List, map, Option, Some, option_map, slice_get}
use Rattle.lp_calculus.specs.Types.{Ty}
use Rattle.lp_calculus.specs.Term.{Term}
use Rattle.lp_term.specs.Mapped.{Map, mapped, mapped_type}
use Rattle.lp_model.specs.Flat.{Goals, Clauses, map_goals, map_clauses}
use Rattle.lp_code.specs.declared.record.Record.{Record}
use Rattle.lp_code.specs.Symbolic.{Built, Registers}
use Rattle.lp_code.specs.Rules.{named_before}
use Rattle.lp_code.specs.States.{Block, under_sigma, under_all, under_assumption, under_not, left_side, right_side, Frame, Captured, State, Home, member}
use Rattle.lp_link.specs.Renumbering.{AreMoved, IsMovedRecord}

abbrev pub moved_loose : Map → List (Option Ty) → List (Option Ty)
moved_loose m ts = map (option_map (mapped_type m)) ts

abbrev pub moved_built : Map → Built → Built
moved_built m b = record { term = mapped m b.term; type = mapped_type m b.type; loose = moved_loose m b.loose }

abbrev pub moved_registers : Map → Registers → Registers
moved_registers m s = record { types = map (option_map (mapped_type m)) s.types; terms = map (option_map (moved_built m)) s.terms }

-- goals and clauses: what is below binders is changed as what is not
abbrev pub moved_term : Map → ℕ → Term → Term
moved_term m e t = mapped m t

abbrev pub same_depth : ℕ → ℕ
same_depth e = e

abbrev pub moved_goals : Map → ℕ → Goals → Goals
moved_goals m e gs = map_goals same_depth (moved_term m) (mapped_type m) e gs

abbrev pub moved_clauses : Map → ℕ → Clauses → Clauses
moved_clauses m e cs = map_clauses same_depth (moved_term m) (mapped_type m) e cs

-- a record at work: its blocks, and what it hands on, to records that stand further up
abbrev pub moved_block : Map → Block → Block
moved_block m (under_sigma r T) = under_sigma r (mapped_type m T)
moved_block m (under_all r T) = under_all r (mapped_type m T)
moved_block m (under_assumption cs) = under_assumption (moved_clauses m 0 cs)
moved_block m under_not = under_not
moved_block m (left_side e) = left_side e
moved_block m (right_side e gs) = right_side e (moved_goals m 0 gs)

abbrev pub moved_frame : Map → Frame → Frame
moved_frame m f = record { block = moved_block m f.block; from = f.from; before = moved_goals m 0 f.before; registers = moved_registers m f.registers }

abbrev pub moved_captured : Map → Captured → Captured
moved_captured m c = record { types = map (mapped_type m) c.types; terms = map (moved_built m) c.terms }

abbrev pub moved_state : Map → (first : ℕ) → State → State
moved_state m n s = record {
  place = s.place;
  now = moved_registers m s.now;
  types_set = s.types_set;
  terms_set = s.terms_set;
  in_body = s.in_body;
  head_types = map (mapped_type m) s.head_types;
  head_arguments = map (moved_built m) s.head_arguments;
  goals = moved_goals m 0 s.goals;
  frames = map (moved_frame m) s.frames;
  assumed = map (λ (a : ℕ × Captured). (n + a.0, moved_captured m a.1)) s.assumed;
}

-- the records around it are there too, further up, and those before it name what they named
pub record IsMovedHome (m : Map) (first : ℕ) (old new : Home) : Type 0 where
  pub tables : AreMoved m old.tables new.tables
  pub number : new.number ≡ old.number + first
  pub self : IsMovedRecord m first old.self new.self
  pub others : (k : ℕ) (r : Record) → slice_get old.records k ≡ Some r → (q : Record) × (slice_get new.records (first + k) ≡ Some q) × IsMovedRecord m first r q
  pub named : (k : ℕ) → member (first + k) (named_before new.number new.records) ≡ member k (named_before old.number old.records)
