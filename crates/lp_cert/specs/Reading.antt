-- Reading certificates from left to right: the value and what is left, or the fault that is met first.
use Rattle.std.specs.Prelude.{ℕ, suc, ◌==◌, nat_lt, if◌then◌else◌, List, [], ◌∷◌, ◌++◌, length, take, drop, replicate, Option, Some, None, Result, Ok, Err, ⊤}
use Rattle.lp_calculus.specs.Types.{Ty, Tys, param, con, arrow, tys}
use Rattle.lp_calculus.specs.Term.{Term, index, atom, abs, app, constant, integer, text, eigen}
use Rattle.lp_calculus.specs.Term as term
use Rattle.lp_bytes.specs.declared.fault.Fault.{Fault}
use Rattle.lp_bytes.specs.declared.fault.Fault.TheVariants.{BadField, BadVersion}
use Rattle.lp_bytes.specs.Reading.{Left, Read, ◌>>=◌, byte_at, two_at, four_at, integer_at, long_text_at, each_at, nested_at, file_of, magic_at, all_read}
use Rattle.lp_cert.specs.Written.{Node, converted, trivial, pair, left_side, right_side, witness, general, assuming, equated, counted, back_to, focus_converted, focus_witness, side, premise, hit}
use Rattle.lp_cert.specs.Certified.{Certificate}
use Rattle.lp_cert.specs.Arities.{Counts, count_of_kind, count_of_constant}
use Rattle.lp_cert.specs.declared.nodes.Sort.{Sort}
use Rattle.lp_cert.specs.declared.nodes.Sort.TheVariants as sorts

-- a value that is made of the one that is read
abbrev pub as_read : {A B : Type 0} → (A → B) → Read A → Read B
as_read f r = r >>= λ x. Ok (f x.0, x.1)

-- the first of a list, where there is one
abbrev pub first_of : {A : Type 0} → ℕ → List A → Left → Read A
first_of at [] s = Err (BadField at)
first_of at (x ∷ xs) s = Ok (x, s)

-- ---- types

-- the top of a type: a type parameter, a kind on so many types, or an arrow
pub data TypeTop : Type 0 where
  parameter : ℕ → TypeTop
  kind : (number arguments : ℕ) → TypeTop
  an_arrow : TypeTop

abbrev pub types_below : TypeTop → List ⊤
types_below (parameter v) = []
types_below (kind k n) = replicate n tt
types_below an_arrow = tt ∷ tt ∷ []

abbrev pub kind_top_at : (at number : ℕ) → Option ℕ → Left → Read TypeTop
kind_top_at at k None s = Err (BadField at)
kind_top_at at k (Some n) s = Ok (kind k n, s)

unfoldable pub type_top_at : Counts → Left → Read TypeTop
type_top_at d s = byte_at s >>= λ t.
    if t.0 == 0 then as_read parameter (four_at t.1)
    else if t.0 == 1 then (four_at t.1 >>= λ k. kind_top_at t.1.at k.0 (count_of_kind d k.0) k.1)
    else if t.0 == 2 then Ok (an_arrow, t.1) else Err (BadField s.at)

-- the tops of a type, each before those of its arguments
unfoldable pub type_tops_at : Counts → Left → Read (List TypeTop)
type_tops_at d s = nested_at (λ one. type_top_at d) types_below [] (suc (length s.rest)) (tt ∷ []) s

-- the types that begin with this top, where these come behind it
abbrev pub with_type_top : TypeTop → List Ty → List Ty
with_type_top (parameter v) ts = param v ∷ ts
with_type_top (kind k n) ts = con k (tys (take n ts)) ∷ drop n ts
with_type_top an_arrow (a ∷ b ∷ ts) = arrow a b ∷ ts
with_type_top an_arrow ts = []

abbrev pub types_made : List TypeTop → List Ty
types_made [] = []
types_made (t ∷ ts) = with_type_top t (types_made ts)

unfoldable pub type_at : Counts → Left → Read Ty
type_at d s = type_tops_at d s >>= λ ts. first_of s.at (types_made ts.0) ts.1

unfoldable pub types_at : Counts → ℕ → Left → Read (List Ty)
types_at d n s = each_at (λ before. type_at d) [] n s

-- ---- terms

-- the top of a term: a term without parts, an abstraction, or an application
pub data TermTop : Type 0 where
  leaf : Term → TermTop
  an_abstraction : TermTop
  an_application : TermTop

abbrev pub terms_below : TermTop → List ⊤
terms_below (leaf t) = []
terms_below an_abstraction = tt ∷ []
terms_below an_application = tt ∷ tt ∷ []

abbrev pub typed_constant_at : Counts → (at number : ℕ) → Option ℕ → Left → Read Term
typed_constant_at d at c None s = Err (BadField at)
typed_constant_at d at c (Some n) s = as_read (λ ts. atom (constant c ts)) (types_at d n s)

unfoldable pub constant_at : Counts → Left → Read Term
constant_at d s = four_at s >>= λ c. typed_constant_at d s.at c.0 (count_of_constant d c.0) c.1

unfoldable pub parameter_at : Counts → Left → Read Term
parameter_at d s = four_at s >>= λ k. as_read (λ t. atom (term.param k.0 t)) (type_at d k.1)

-- behind its first byte, which stood at the offset
unfoldable pub leaf_at : Counts → (at tag : ℕ) → Left → Read Term
leaf_at d at tag s =
    if tag == 0 then as_read index (four_at s) else if tag == 1 then constant_at d s else if tag == 2 then as_read (λ z. atom (integer z)) (integer_at s)
    else if tag == 3 then as_read (λ x. atom (text x)) (long_text_at s) else if tag == 4 then as_read (λ k. atom (eigen k)) (four_at s)
    else if tag == 5 then parameter_at d s else Err (BadField at)

unfoldable pub term_top_at : Counts → Left → Read TermTop
term_top_at d s = byte_at s >>= λ t.
    if t.0 == 6 then Ok (an_abstraction, t.1) else if t.0 == 7 then Ok (an_application, t.1) else as_read leaf (leaf_at d s.at t.0 t.1)

-- the tops of a term, each before those of its parts
unfoldable pub term_tops_at : Counts → Left → Read (List TermTop)
term_tops_at d s = nested_at (λ one. term_top_at d) terms_below [] (suc (length s.rest)) (tt ∷ []) s

abbrev pub with_term_top : TermTop → List Term → List Term
with_term_top (leaf t) ts = t ∷ ts
with_term_top an_abstraction (t ∷ ts) = abs t ∷ ts
with_term_top an_abstraction [] = []
with_term_top an_application (t ∷ u ∷ ts) = app t u ∷ ts
with_term_top an_application ts = []

abbrev pub terms_made : List TermTop → List Term
terms_made [] = []
terms_made (t ∷ ts) = with_term_top t (terms_made ts)

unfoldable pub term_at : Counts → Left → Read Term
term_at d s = term_tops_at d s >>= λ ts. first_of s.at (terms_made ts.0) ts.1

unfoldable pub terms_at : Counts → ℕ → Left → Read (List Term)
terms_at d n s = each_at (λ before. term_at d) [] n s

-- ---- proofs

-- what the nodes below a node stand for: proofs of goals, and focuses on clauses
abbrev pub nodes_below : Node → List Sort
nodes_below (converted t) = sorts.Proof ∷ []
nodes_below trivial = []
nodes_below pair = sorts.Proof ∷ sorts.Proof ∷ []
nodes_below left_side = sorts.Proof ∷ []
nodes_below right_side = sorts.Proof ∷ []
nodes_below (witness t) = sorts.Proof ∷ []
nodes_below general = sorts.Proof ∷ []
nodes_below assuming = sorts.Proof ∷ []
nodes_below equated = []
nodes_below counted = []
nodes_below (back_to c ts) = sorts.Focus ∷ []
nodes_below (focus_converted t) = sorts.Focus ∷ []
nodes_below (focus_witness t) = sorts.Focus ∷ []
nodes_below (side s) = sorts.Focus ∷ []
nodes_below premise = sorts.Proof ∷ sorts.Focus ∷ []
nodes_below hit = []

unfoldable pub back_at : Counts → Left → Read Node
back_at d s = four_at s >>= λ c. two_at c.1 >>= λ n. as_read (back_to c.0) (types_at d n.0 n.1)

unfoldable pub goal_node_at : Counts → (at tag : ℕ) → Left → Read Node
goal_node_at d at tag s =
    if tag == 0 then as_read converted (term_at d s) else if tag == 1 then Ok (trivial, s) else if tag == 2 then Ok (pair, s) else if tag == 3 then Ok (left_side, s)
    else if tag == 4 then Ok (right_side, s) else if tag == 5 then as_read witness (term_at d s) else if tag == 6 then Ok (general, s) else if tag == 7 then Ok (assuming, s)
    else if tag == 8 then Ok (equated, s) else if tag == 9 then Ok (counted, s) else if tag == 10 then back_at d s else Err (BadField at)

-- 0 for the left side of a conjunction, 1 for the right one
unfoldable pub side_at : Left → Read ℕ
side_at s = byte_at s >>= λ b. if nat_lt 1 b.0 then Err (BadField s.at) else Ok b

unfoldable pub focus_node_at : Counts → (at tag : ℕ) → Left → Read Node
focus_node_at d at tag s =
    if tag == 16 then as_read focus_converted (term_at d s) else if tag == 17 then as_read focus_witness (term_at d s) else if tag == 18 then as_read side (side_at s)
    else if tag == 19 then Ok (premise, s) else if tag == 20 then Ok (hit, s) else Err (BadField at)

abbrev pub sorted_node_at : Counts → Sort → (at tag : ℕ) → Left → Read Node
sorted_node_at d sorts.Proof at tag s = goal_node_at d at tag s
sorted_node_at d sorts.Focus at tag s = focus_node_at d at tag s

unfoldable pub node_at : Counts → Sort → Left → Read Node
node_at d sort s = byte_at s >>= λ t. sorted_node_at d sort s.at t.0 t.1

-- the nodes of a proof, each before those below it
unfoldable pub proof_at : Counts → Left → Read (List Node)
proof_at d s = nested_at (node_at d) nodes_below [] (suc (length s.rest)) (sorts.Proof ∷ []) s

-- ---- files

unfoldable pub certificate_at : Counts → Left → Read Certificate
certificate_at d s = do
  types_count ← four_at s
  types ← types_at d types_count.0 types_count.1
  values_count ← four_at types.1
  values ← terms_at d values_count.0 values_count.1
  nodes ← proof_at d values.1
  Ok (record { instance = record { types = types.0; values = values.0 }; nodes = nodes.0 }, nodes.1)

-- version 1
unfoldable pub version_at : Left → Result Left Fault
version_at s = two_at s >>= λ v. if v.0 == 1 then Ok v.1 else Err (BadVersion v.0)

-- all certificates of a file
unfoldable pub certificates_of : Counts → List ℕ → Result (List Certificate) Fault
certificates_of d bytes = do
  file ← file_of bytes
  magic ← magic_at (76 ∷ 80 ∷ 67 ∷ 84 ∷ []) file
  version ← version_at magic
  count ← four_at version
  certificates ← each_at (λ before. certificate_at d) [] count.0 count.1
  over ← all_read certificates.1
  Ok certificates.0
