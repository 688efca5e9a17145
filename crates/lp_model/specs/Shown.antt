-- How terms and answers are shown: binders get names, operators stand between their operands with parentheses where the table of
-- operators asks for them, and variables are numbered as they come (the notation of Nadathur and Miller 1988).
use Rattle.std.specs.Prelude.{ℕ, zero, suc, ◌-◌, nat_eq, Bool, true, false, ◌&&◌, ◌||◌, if◌then◌else◌, List, [], ◌∷◌, ◌++◌, length, Option, Some, None, option_and_then, unwrap_or, codes, decimal}
use Rattle.std.specs.Str.{bytes_eq}
use Rattle.std.specs.Fmt.{signed_decimal}
use Rattle.lp_standard.specs.declared.fixity.Fixity.{Fixity}
use Rattle.lp_standard.specs.Operands.{By, is_prefix, is_postfix, fits_left, fits_right}
use Rattle.lp_standard.specs.Constants.{numbered, name, fixity}
use Rattle.lp_calculus.specs.Term.{Term, Atom, index, atom, abs, app, constant, integer, text, eigen, logic, param}

-- a constant: its name, which of the hidden constants of this name it is (0 where it is not hidden), and its fixity and number
pub record Entry : Type 0 where
  pub number : ℕ
  pub name : List ℕ
  pub hidden : ℕ
  pub fixity : Option (Fixity × ℕ)

-- a constant as it is seen without a declaration
abbrev pub plain_entry : ℕ → Entry
plain_entry c = elim (numbered c) [
  | None ↦ record { number = c; name = []; hidden = 0; fixity = None }
  | Some k ↦ record { number = c; name = name k; hidden = 0; fixity = fixity k }
]

-- the entry of a constant: standard constants need none
abbrev pub entry_in : List Entry → ℕ → Entry
entry_in [] c = plain_entry c
entry_in (e ∷ es) c = if nat_eq e.number c then e else entry_in es c

-- the name is that of a constant that is not hidden
abbrev pub has_name : List ℕ → List Entry → Bool
has_name n [] = false
has_name n (e ∷ es) = (nat_eq e.hidden 0 && bytes_eq n e.name) || has_name n es

abbrev pub is_taken : List Entry → ℕ → Bool
is_taken es k = has_name (codes "x" ++ decimal k) es

-- from k on, the number of the first name that is not taken: of n + 1 names in a row one is free where there are n constants
abbrev pub next_free : (n : ℕ) → List Entry → (k : ℕ) → ℕ
next_free zero es k = k
next_free (suc n) es k = if is_taken es k then next_free n es (suc k) else k

-- the binder under d others has the next name behind theirs of `x1`, `x2` .. that is no constant
abbrev pub binder_number : List Entry → ℕ → ℕ
binder_number es zero = next_free (length es) es 1
binder_number es (suc d) = next_free (length es) es (suc (binder_number es d))

abbrev pub binder_name : List Entry → ℕ → List ℕ
binder_name es d = codes "x" ++ decimal (binder_number es d)

-- what a shown term is, for those around it
pub data Shape : Type 0 where
  Name : Shape
  Applied : Shape
  Abstracted : Shape
  Operated : Fixity → ℕ → Shape

pub record Piece : Type 0 where
  pub shape : Shape
  pub text : List ℕ

abbrev pub bracketed : List ℕ → List ℕ
bracketed s = codes "(" ++ (s ++ codes ")")

abbrev pub as_argument : Shape → List ℕ → List ℕ
as_argument Name s = s
as_argument Applied s = bracketed s
as_argument Abstracted s = bracketed s
as_argument (Operated f n) s = bracketed s

-- a side of a `where` line
abbrev pub as_side : Shape → List ℕ → List ℕ
as_side Name s = s
as_side Applied s = s
as_side Abstracted s = bracketed s
as_side (Operated f n) s = bracketed s

-- the left and the right operand of an operator
abbrev pub as_left : Fixity → ℕ → Shape → List ℕ → List ℕ
as_left f n Name s = s
as_left f n Applied s = s
as_left f n Abstracted s = bracketed s
as_left f n (Operated g k) s = if fits_left (By g k) f n then s else bracketed s

abbrev pub as_right : Fixity → ℕ → Shape → List ℕ → List ℕ
as_right f n Name s = s
as_right f n Applied s = s
as_right f n Abstracted s = bracketed s
as_right f n (Operated g k) s = if fits_right (By g k) f n then s else bracketed s

abbrev pub arguments_text : List Piece → List ℕ
arguments_text [] = []
arguments_text (p ∷ ps) = codes " " ++ (as_argument p.shape p.text ++ arguments_text ps)

-- a head with its arguments behind it
abbrev pub applied : List ℕ → List Piece → Piece
applied h [] = record { shape = Name; text = h }
applied h (p ∷ ps) = record { shape = Applied; text = h ++ arguments_text (p ∷ ps) }

-- an operator on exactly its operands
abbrev pub operated : Fixity → ℕ → List ℕ → List Piece → Option Piece
operated f n name (p ∷ []) =
    if is_prefix f then Some (record { shape = Operated f n; text = name ++ (codes " " ++ as_right f n p.shape p.text) })
    else (if is_postfix f then Some (record { shape = Operated f n; text = as_left f n p.shape p.text ++ (codes " " ++ name) })
    else None)
operated f n name (p ∷ q ∷ []) =
    if is_prefix f || is_postfix f then None
    else Some (record { shape = Operated f n; text = as_left f n p.shape p.text ++ (codes " " ++ (name ++ (codes " " ++ as_right f n q.shape q.text))) })
operated f n name ps = None

-- a constant by itself: a hidden one with its number, an operator in parentheses
abbrev pub constant_text : Entry → List ℕ
constant_text e =
    if nat_eq e.hidden 0 then elim e.fixity [ None ↦ e.name | Some fixity ↦ bracketed e.name ]
    else e.name ++ (codes "$" ++ decimal e.hidden)

abbrev pub constant_piece : Entry → List Piece → Piece
constant_piece e ps =
    if nat_eq e.hidden 0 then unwrap_or (option_and_then (λ x. operated x.0 x.1 e.name ps) e.fixity) (applied (constant_text e) ps)
    else applied (constant_text e) ps

-- the bytes of a string, with escapes
abbrev pub escaped : List ℕ → List ℕ
escaped [] = []
escaped (b ∷ bs) =
    if nat_eq b 92 then codes "\\\\" ++ escaped bs
    else (if nat_eq b 34 then codes "\\\"" ++ escaped bs
    else (if nat_eq b 10 then codes "\\n" ++ escaped bs
    else (if nat_eq b 9 then codes "\\t" ++ escaped bs
    else b ∷ escaped bs)))

-- the numbers of logic variables in the order of their first places. A variable's number tells its level
abbrev pub place_of : ℕ → List ℕ → ℕ
place_of x [] = 0
place_of x (v ∷ vs) = if nat_eq x v then 0 else suc (place_of x vs)

abbrev pub is_seen : ℕ → List ℕ → Bool
is_seen x [] = false
is_seen x (v ∷ vs) = nat_eq x v || is_seen x vs

abbrev pub with_variable : ℕ → List ℕ → List ℕ
with_variable x vs = if is_seen x vs then vs else vs ++ x ∷ []

abbrev pub with_variables : List ℕ → Term → List ℕ
with_variables vs (atom (logic x l)) = with_variable x vs
with_variables vs (atom a) = vs
with_variables vs (index i) = vs
with_variables vs (abs b) = with_variables vs b
with_variables vs (app t u) = with_variables (with_variables vs t) u

-- an atom on arguments. A parameter stands in no answer
abbrev pub atom_piece : List Entry → List ℕ → Atom → List Piece → Piece
atom_piece es vs (constant c ts) ps = constant_piece (entry_in es c) ps
atom_piece es vs (integer z) ps = applied (signed_decimal z) ps
atom_piece es vs (text s) ps = applied (codes "\"" ++ (escaped s ++ codes "\"")) ps
atom_piece es vs (eigen k) ps = applied (codes "#" ++ decimal k) ps
atom_piece es vs (logic x l) ps = applied (codes "_" ++ decimal (suc (place_of x vs))) ps
atom_piece es vs (param k T) ps = applied [] ps

-- d binders stand outside
abbrev mutual
  pub piece : List Entry → List ℕ → (d : ℕ) → Term → Piece
  piece es vs d (index i) = applied (binder_name es (d - 1 - i)) []
  piece es vs d (atom a) = atom_piece es vs a []
  piece es vs d (abs b) = record { shape = Abstracted; text = binder_name es d ++ (codes "\\ " ++ (piece es vs (suc d) b).text) }
  piece es vs d (app t u) = headed es vs d t (piece es vs d u ∷ [])

  -- a term on arguments that are shown already
  pub headed : List Entry → List ℕ → (d : ℕ) → Term → List Piece → Piece
  headed es vs d (index i) ps = applied (binder_name es (d - 1 - i)) ps
  headed es vs d (atom a) ps = atom_piece es vs a ps
  headed es vs d (abs b) ps = applied (bracketed (binder_name es d ++ (codes "\\ " ++ (piece es vs (suc d) b).text))) ps
  headed es vs d (app t u) ps = headed es vs d t (piece es vs d u ∷ ps)

-- a term by itself, in beta-eta normal form
abbrev pub shown_term : List Entry → Term → List ℕ
shown_term es t = (piece es (with_variables [] t) 0 t).text

-- the values of the query's variables; that of `_` is not shown
abbrev pub is_shown : List ℕ → Bool
is_shown name = if bytes_eq name (codes "_") then false else true

abbrev pub values_shown : List (List ℕ) → List Term → List (List ℕ × Term)
values_shown (n ∷ ns) (t ∷ ts) = if is_shown n then (n, t) ∷ values_shown ns ts else values_shown ns ts
values_shown ns ts = []

abbrev pub variables_of_values : List ℕ → List (List ℕ × Term) → List ℕ
variables_of_values vs [] = vs
variables_of_values vs (b ∷ bs) = variables_of_values (with_variables vs b.1) bs

abbrev pub variables_of_pairs : List ℕ → List (Term × Term) → List ℕ
variables_of_pairs vs [] = vs
variables_of_pairs vs (p ∷ ps) = variables_of_pairs (with_variables (with_variables vs p.0) p.1) ps

abbrev pub value_lines : List Entry → List ℕ → List (List ℕ × Term) → List ℕ
value_lines es vs [] = []
value_lines es vs (b ∷ bs) = (codes "  " ++ (b.0 ++ (codes " = " ++ ((piece es vs 0 b.1).text ++ codes "\n")))) ++ value_lines es vs bs

abbrev pub side : List Entry → List ℕ → Term → List ℕ
side es vs t = as_side (piece es vs 0 t).shape (piece es vs 0 t).text

abbrev pub pair_lines : List Entry → List ℕ → List (Term × Term) → List ℕ
pair_lines es vs [] = []
pair_lines es vs (p ∷ ps) = (codes "  where " ++ (side es vs p.0 ++ (codes " == " ++ (side es vs p.1 ++ codes "\n")))) ++ pair_lines es vs ps

-- the lines of an answer: the names and the values of the query's variables, and the sides of its residual pairs, in beta-eta normal form
abbrev pub shown_answer : List Entry → (number : ℕ) → (names : List (List ℕ)) → (values : List Term) → (pairs : List (Term × Term)) → List ℕ
shown_answer es number names values pairs =
    let shown = values_shown names values in
    let vs = variables_of_pairs (variables_of_values [] shown) pairs in
    (codes "answer " ++ (decimal number ++ codes "\n")) ++ (value_lines es vs shown ++ pair_lines es vs pairs)
