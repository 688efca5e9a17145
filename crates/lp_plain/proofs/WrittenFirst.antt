-- The first of written goals is taken, and the others stay in front of those behind; and the search goes back.
use Rattle.std.proofs.Common.{◌≡◌, ℕ, suc, ◌<◌, ◌≤◌, List, [], ◌∷◌, ◌++◌, length, sym, ap, ◌∙◌, subst, arith, Option, Some, None}
use Rattle.std.specs.Prelude.{slice_get}
use Rattle.lp_term.specs.declared.node.TermId.{TermId}
use Rattle.lp_plain.specs.declared.choice.Choice.{Choice}
use Rattle.lp_plain.specs.declared.frame.Frame.{Frame}
use Rattle.lp_plain.specs.declared.frame.Place.{Place}
use Rattle.lp_plain.specs.declared.frame.Todo.{Todo}
use Rattle.lp_plain.specs.declared.machine.Machine.{Machine}
use Rattle.lp_plain.specs.declared.table.Flat.{Flat}
use Rattle.lp_plain.specs.declared.table.Span.{Span}
use Rattle.lp_plain.specs.Assuming.{KeepsAssumed}
use Rattle.lp_plain.specs.Entries.{GrowsGoals, KeepsGoals}
use Rattle.lp_plain.specs.Restoring.{IsTaken}
use Rattle.lp_plain.specs.Scopes.{blocks_of}
use Rattle.lp_plain.specs.Tables.{shown}
use Rattle.lp_plain.specs.Taking.{IsApartFlat}
use Rattle.lp_plain.specs.Within.{IsFlatIn, IsTodoIn, StandsIn}
use Rattle.lp_plain.specs.WrittenSearch.{IsApartAtHand, IsWrittenSearch, WritesFlat, WritesGoals}
use Rattle.lp_plain.specs.WrittenTable.{IsWrittenIn, IsWrittenTodo, WrittenFlat, WrittenGoals}
use Rattle.lp_plain.proofs.Backwards.{stands_then}
use Rattle.lp_plain.proofs.Growing.{grows_kept}
use Rattle.lp_plain.proofs.OwnValues.{one_read}
use Rattle.lp_plain.proofs.TableWritten.{first_of}
use Rattle.lp_plain.proofs.Within.{all_at}
use Rattle.lp_plain.proofs.WrittenGrows.{flat_later, in_later}
use Rattle.lp_plain.proofs.WrittenParts.{in_by}
use Rattle.lp_plain.proofs.WrittenSearches.{search_back, search_frame, search_same}

pub last_writes : (m n : Machine) (p : Place) (span : Span) (f : Flat) → slice_get m.table.goals.items span.from ≡ Some f → span.from < span.to → WritesFlat m n p f → WritesGoals m n p span
last_writes m n p span f e l g ar i w s =
    g ar i (in_by m.bank (blocks_of m.scopes) p.values.scope (λ k bs. WrittenGoals m.bank (shown m.table) ar k bs span.from span.to) (λ k bs. WrittenFlat m.bank (shown m.table) ar k bs f)
    (λ k bs h. (first_of m.bank (shown m.table) ar k bs span.from span.to f h e (omega (arith, l))).0) w) s

pub more_writes : (m q n : Machine) (p : Place) (span rest : Span) (f : Flat) (behind : Option ℕ) → KeepsGoals m q → KeepsAssumed m q →
    q.choices.items ≡ m.choices.items → q.frames.items ≡ m.frames.items ++ record { todo = Todo.Goals rest; place = p; behind = behind } ∷ [] →
    (StandsIn m → StandsIn q) → slice_get m.table.goals.items span.from ≡ Some f → rest.from ≡ suc span.from → rest.to ≡ span.to → rest.from < rest.to → WritesFlat q n p f → WritesGoals m n p span
more_writes m q n p span rest f behind k h c e st got a b l g ar i w s =
    let go : GrowsGoals m q = grows_kept m q k in
    let bound : suc span.from ≤ span.to = omega (arith, l, a, b) in
    let others = in_by m.bank (blocks_of m.scopes) p.values.scope (λ k bs. WrittenGoals m.bank (shown m.table) ar k bs span.from span.to)
    (λ k bs. WrittenGoals m.bank (shown m.table) ar k bs rest.from rest.to)
    (λ k bs h. subst (λ z. WrittenGoals m.bank (shown m.table) ar k bs rest.from z) (sym b)
    (subst (λ z. WrittenGoals m.bank (shown m.table) ar k bs z span.to) (sym a)
    (first_of m.bank (shown m.table) ar k bs span.from span.to f h got bound).1)) w in
    let one = in_later m.bank q.bank go.bank (blocks_of m.scopes) (blocks_of q.scopes) i.values go.blocks go.values p.values.scope
    (λ k bs. WrittenGoals m.bank (shown m.table) ar k bs span.from span.to) (λ k bs. WrittenFlat q.bank (shown m.table) ar k bs f)
    (λ k bs h. flat_later m.bank q.bank go.bank m.table i.table ar k (all_at (IsFlatIn (length m.bank.terms)) m.table.goals.items span.from f got
    i.table.goals) (first_of m.bank (shown m.table) ar k bs span.from span.to f h got bound).0) w in
    g ar (st i) (subst (λ t. IsWrittenIn q.bank (blocks_of q.scopes) p.values.scope (λ k bs. WrittenFlat q.bank (shown t) ar k bs f)) (sym go.table) one) (search_frame m q _ i k h c e l ar others s)

pub back_written : (m n q : Machine) (c : Choice) (rest : List Choice) → m.choices.items ≡ rest ++ c ∷ [] → IsTaken m n c rest → KeepsGoals n q →
    q.frames ≡ n.frames → KeepsAssumed n q → q.choices.items ≡ n.choices.items → (ar : ℕ → ℕ) → StandsIn m →
    IsWrittenSearch m ar → IsWrittenSearch q ar
back_written m n q c rest e t k f a h ar i w = search_same n q (stands_then m n c rest t i) (grows_kept n q k) f a h ar (search_back m n c rest e t ar w)

-- the first goal of the branch at work
pub branch_written : (m n : Machine) (number : ℕ) (frame : Frame) (goals : Span) → m.branch.goals ≡ Some number → slice_get m.frames.items number ≡ Some frame → frame.todo ≡ Todo.Goals goals →
    ((f : Flat) → slice_get m.table.goals.items goals.from ≡ Some f → IsApartFlat f → goals.from < goals.to → WritesGoals m n frame.place goals) →
    IsApartAtHand m → (ar : ℕ → ℕ) → StandsIn m → IsWrittenSearch m ar → IsWrittenSearch n ar
branch_written m n number frame goals b got todo f h ar i w =
    let number_is : h.number ≡ number = (let q : Some h.number ≡ Some number = sym h.at_work ∙ b in cc) in
    let frame_is : h.frame ≡ frame = one_read m.frames.items number h.frame frame (subst (λ k. slice_get m.frames.items k ≡ Some h.frame) number_is h.there) got in
    let span_is : h.span ≡ goals = (let q : Todo.Goals h.span ≡ Todo.Goals goals = sym h.todo ∙ ap (λ x. x.todo) frame_is ∙ todo in cc) in
    let l : goals.from < goals.to = subst (IsTodoIn (length m.bank.terms)) todo (all_at (λ (x : Frame). IsTodoIn (length m.bank.terms) x.todo) m.frames.items number frame got i.frames) in
    let here = subst (IsWrittenTodo m.bank (shown m.table) ar (blocks_of m.scopes) frame.place.values.scope) todo
    (all_at (λ (x : Frame). IsWrittenTodo m.bank (shown m.table) ar (blocks_of m.scopes) x.place.values.scope x.todo) m.frames.items number frame got w.at_work.goals) in
    f h.flat (subst (λ s. slice_get m.table.goals.items s.from ≡ Some h.flat) span_is h.first) h.apart l ar i here w

pub term_at_hand : (m : Machine) (number : ℕ) (frame : Frame) (t : TermId) → m.branch.goals ≡ Some number → slice_get m.frames.items number ≡ Some
    frame → frame.todo ≡ Todo.Term t → IsApartAtHand m → ⊥
term_at_hand m number frame t b got todo h =
    let number_is : h.number ≡ number = (let q : Some h.number ≡ Some number = sym h.at_work ∙ b in cc) in
    let frame_is : h.frame ≡ frame = one_read m.frames.items number h.frame frame (subst (λ k. slice_get m.frames.items k ≡ Some h.frame) number_is h.there) got in
    let q : Todo.Goals h.span ≡ Todo.Term t = sym h.todo ∙ ap (λ x. x.todo) frame_is ∙ todo in
    absurd (cc)

pub none_at_hand : (m : Machine) → m.branch.goals ≡ None → IsApartAtHand m → ⊥
none_at_hand m e h = let q : None ≡ Some h.number = sym e ∙ h.at_work in absurd (cc)
