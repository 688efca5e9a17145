-- The definitions of the grammar, computed on texts: the tree or the fault of the reader that the laws join to the grammar, for the
-- operators' cases that are easily read wrongly, and how deep such trees are. Leaves are the numbers of tokens.
use Rattle.std.proofs.Common.{◌≡◌, ℕ, suc, List, [], ◌∷◌, drop, refl, codes}
use Rattle.std.specs.Prelude.{None, pos}
use Rattle.lp_standard.specs.declared.fixity.Fixity.TheVariants.{Infixl, Infixr, Prefix, Prefixr, Postfix, Postfixl}
use Rattle.lp_fixity.specs.Table.{Entry, with_entries, standard}
use Rattle.lp_lexer.specs.declared.token.TokenKind.{TokenKind}
use Rattle.lp_lexer.specs.declared.token.TokenKind.TheVariants as kind
use Rattle.lp_syntax.specs.declared.symbol.Sym.{Sym}
use Rattle.lp_syntax.specs.declared.symbol.Fault.{Fault}
use Rattle.lp_syntax.specs.declared.symbol.Fault.TheVariants.{Unexpected, Ambiguous}
use Rattle.lp_syntax.specs.Symbols.{Tree, Leaf, Nil, App, Lam, binary, cons, fits_left, fits_right, is_item, separates}
use Rattle.lp_syntax.specs.Machine.{read, Given, Faulty, Unfinished}
use Rattle.lp_syntax.specs.Tokens.{Lexeme, Operators, class_at, bytes_at, symbol_at}
use Rattle.lp_syntax.specs.Text.{IsTerm, FaultAt}
use Rattle.lp_syntax.specs.Types.{Named, Applied, Arrows}
use Rattle.lp_syntax.specs.Depth.{type_depth, HasDepth, leaf, cons as cons_leaf, nil, applied, abstracted}
use Rattle.lp_syntax.proofs.Reading.{term_of_read, fault_is_first}

abbrev pub token : TokenKind → List ℕ → Lexeme
token k text = record { kind = k; bytes = text }

abbrev pub word : List ℕ → Lexeme
word text = token kind.Lower text

abbrev pub symbol_of_name : List ℕ → Lexeme
symbol_of_name text = token kind.Symbol text

abbrev pub number : ℕ → Lexeme
number i = token (kind.Number (pos i)) []

abbrev pub marked : TokenKind → Lexeme
marked k = token k []

-- the symbols of a text without annotations, from a token on
abbrev symbols_from : Operators → List Lexeme → ℕ → List Lexeme → List Sym
symbols_from ops ls i [] = []
symbols_from ops ls i (m ∷ ms) = symbol_at ops ls i ∷ symbols_from ops ls (suc i) ms

-- under the standard operators and these: the tree of a text, its fault and the token where it is, and a text that ends too early
abbrev under : List Entry → Operators
under es name = with_entries es standard name

abbrev symbols : List Entry → List Lexeme → List Sym
symbols es ls = symbols_from (under es) ls 0 ls

abbrev IsTree : List Entry → List Lexeme → Tree → Type 0
IsTree es ls t = read (symbols es ls) ≡ Given t

abbrev HasFault : List Entry → List Lexeme → Fault → ℕ → Type 0
HasFault es ls f at = read (symbols es ls) ≡ Faulty f (drop at (symbols es ls))

-- what is computed is what the grammar gives, and a fault is where no term goes on
row_is_term : (es : List Entry) (ls : List Lexeme) (t : Tree) → IsTree es ls t → IsTerm (symbols es ls) t
row_is_term es ls t e = term_of_read (symbols es ls) t e

row_is_fault : (es : List Entry) (ls : List Lexeme) (f : Fault) (at : ℕ) → HasFault es ls f at → FaultAt (symbols es ls) (drop at (symbols es ls))
row_is_fault es ls f at e = fault_is_first (symbols es ls) f (drop at (symbols es ls)) e

-- `~ 1 + 2`
prefix_first : IsTree ([]) (symbol_of_name (codes "~") ∷ number 1 ∷ symbol_of_name (codes "+") ∷ number 2 ∷ []) (binary 2 (App (Leaf 0) (Leaf 1)) (Leaf 3))
unfolding read symbol_at class_at bytes_at Rattle.lp_syntax.specs.Classes.lower Rattle.lp_syntax.specs.Classes.symbol fits_left fits_right is_item separates
prefix_first = refl

-- `a => b => c`
to_the_right : IsTree ([]) (word (codes "a") ∷ symbol_of_name (codes "=>") ∷ word (codes "b") ∷ symbol_of_name (codes "=>") ∷ word (codes "c") ∷ []) (binary 1 (Leaf 0) (binary 3 (Leaf 2) (Leaf 4)))
unfolding read symbol_at class_at bytes_at Rattle.lp_syntax.specs.Classes.lower Rattle.lp_syntax.specs.Classes.symbol fits_left fits_right is_item separates
to_the_right = refl

-- `a :- b :- c`
to_the_left : IsTree ([]) (word (codes "a") ∷ symbol_of_name (codes ":-") ∷ word (codes "b") ∷ symbol_of_name (codes ":-") ∷ word (codes "c") ∷ []) (binary 3 (binary 1 (Leaf 0) (Leaf 2)) (Leaf 4))
unfolding read symbol_at class_at bytes_at Rattle.lp_syntax.specs.Classes.lower Rattle.lp_syntax.specs.Classes.symbol fits_left fits_right is_item separates
to_the_left = refl

-- `f x\ x y`
last_argument : IsTree ([]) (word (codes "f") ∷ word (codes "x") ∷ marked kind.Backslash ∷ word (codes "x") ∷ word (codes "y") ∷ []) (App (Leaf 0) (Lam 1 None (App (Leaf 3) (Leaf 4))))
unfolding read symbol_at class_at bytes_at Rattle.lp_syntax.specs.Classes.lower Rattle.lp_syntax.specs.Classes.symbol fits_left fits_right is_item separates
last_argument = refl

-- `pi x\ q x, r`
over_commas : IsTree ([]) (word (codes "pi") ∷ word (codes "x") ∷ marked kind.Backslash ∷ word (codes "q") ∷ word (codes "x") ∷ symbol_of_name (codes ",") ∷ word (codes "r") ∷ []) (App (Leaf 0) (Lam 1 None (binary 5 (App (Leaf 3) (Leaf 4)) (Leaf 6))))
unfolding read symbol_at class_at bytes_at Rattle.lp_syntax.specs.Classes.lower Rattle.lp_syntax.specs.Classes.symbol fits_left fits_right is_item separates
over_commas = refl

-- `[x\ a, b]`
list_of_one : IsTree ([]) (marked kind.OpenList ∷ word (codes "x") ∷ marked kind.Backslash ∷ word (codes "a") ∷ symbol_of_name (codes ",") ∷ word (codes "b") ∷ marked kind.CloseList ∷ []) (cons 0 (Lam 1 None (binary 4 (Leaf 3) (Leaf 5))) (Nil 6))
unfolding read symbol_at class_at bytes_at Rattle.lp_syntax.specs.Classes.lower Rattle.lp_syntax.specs.Classes.symbol fits_left fits_right is_item separates
list_of_one = refl

-- `[a, b]`
list_of_two : IsTree ([]) (marked kind.OpenList ∷ word (codes "a") ∷ symbol_of_name (codes ",") ∷ word (codes "b") ∷ marked kind.CloseList ∷ []) (cons 0 (Leaf 1) (cons 2 (Leaf 3) (Nil 4)))
unfolding read symbol_at class_at bytes_at Rattle.lp_syntax.specs.Classes.lower Rattle.lp_syntax.specs.Classes.symbol fits_left fits_right is_item separates
list_of_two = refl

-- `[a, b | t, u]`
list_with_tail : IsTree ([]) (marked kind.OpenList ∷ word (codes "a") ∷ symbol_of_name (codes ",") ∷ word (codes "b") ∷ marked kind.Bar ∷ word (codes "t") ∷ symbol_of_name (codes ",") ∷ word (codes "u") ∷ marked kind.CloseList ∷ []) (cons 0 (Leaf 1) (cons 2 (Leaf 3) (binary 6 (Leaf 5) (Leaf 7))))
unfolding read symbol_at class_at bytes_at Rattle.lp_syntax.specs.Classes.lower Rattle.lp_syntax.specs.Classes.symbol fits_left fits_right is_item separates
list_with_tail = refl

-- `(,) (&) div`
operators_as_names : IsTree ([]) (marked kind.Open ∷ symbol_of_name (codes ",") ∷ marked kind.Close ∷ marked kind.Open ∷ symbol_of_name (codes "&") ∷ marked kind.Close ∷ word (codes "div") ∷ number 1 ∷ []) (binary 6 (App (Leaf 1) (Leaf 4)) (Leaf 7))
unfolding read symbol_at class_at bytes_at Rattle.lp_syntax.specs.Classes.lower Rattle.lp_syntax.specs.Classes.symbol fits_left fits_right is_item separates
operators_as_names = refl

-- `p p a, with prefixr p 10`
user_prefix : IsTree ((codes "p", (Prefixr, 10)) ∷ []) (word (codes "p") ∷ word (codes "p") ∷ word (codes "a") ∷ []) (App (Leaf 0) (App (Leaf 1) (Leaf 2)))
unfolding read symbol_at class_at bytes_at Rattle.lp_syntax.specs.Classes.lower Rattle.lp_syntax.specs.Classes.symbol fits_left fits_right is_item separates
user_prefix = refl

-- `a s s, with postfixl s 10`
user_postfix : IsTree ((codes "s", (Postfixl, 10)) ∷ []) (word (codes "a") ∷ word (codes "s") ∷ word (codes "s") ∷ []) (App (Leaf 2) (App (Leaf 1) (Leaf 0)))
unfolding read symbol_at class_at bytes_at Rattle.lp_syntax.specs.Classes.lower Rattle.lp_syntax.specs.Classes.symbol fits_left fits_right is_item separates
user_postfix = refl

-- `a o b, c, with infixr o 110`
one_number : IsTree ((codes "o", (Infixr, 110)) ∷ []) (word (codes "a") ∷ word (codes "o") ∷ word (codes "b") ∷ symbol_of_name (codes ",") ∷ word (codes "c") ∷ []) (binary 1 (Leaf 0) (binary 3 (Leaf 2) (Leaf 4)))
unfolding read symbol_at class_at bytes_at Rattle.lp_syntax.specs.Classes.lower Rattle.lp_syntax.specs.Classes.symbol fits_left fits_right is_item separates
one_number = refl

-- `X = Y = Z`
infix_twice : HasFault ([]) (token kind.Upper (codes "X") ∷ symbol_of_name (codes "=") ∷ token kind.Upper (codes "Y") ∷ symbol_of_name (codes "=") ∷ token kind.Upper (codes "Z") ∷ []) Ambiguous 3
unfolding read symbol_at class_at bytes_at Rattle.lp_syntax.specs.Classes.lower Rattle.lp_syntax.specs.Classes.symbol fits_left fits_right is_item separates
infix_twice = refl

-- `a => b l c, with infixl l 130`
left_beside_right : HasFault ((codes "l", (Infixl, 130)) ∷ []) (word (codes "a") ∷ symbol_of_name (codes "=>") ∷ word (codes "b") ∷ word (codes "l") ∷ word (codes "c") ∷ []) Ambiguous 3
unfolding read symbol_at class_at bytes_at Rattle.lp_syntax.specs.Classes.lower Rattle.lp_syntax.specs.Classes.symbol fits_left fits_right is_item separates
left_beside_right = refl

-- `p a = b, with prefix p 130`
prefix_before_infix : HasFault ((codes "p", (Prefix, 130)) ∷ []) (word (codes "p") ∷ word (codes "a") ∷ symbol_of_name (codes "=") ∷ word (codes "b") ∷ []) Ambiguous 2
unfolding read symbol_at class_at bytes_at Rattle.lp_syntax.specs.Classes.lower Rattle.lp_syntax.specs.Classes.symbol fits_left fits_right is_item separates
prefix_before_infix = refl

-- `a s = b, with postfix s 20`
behind_a_postfix_form : HasFault ((codes "s", (Postfix, 20)) ∷ []) (word (codes "a") ∷ word (codes "s") ∷ symbol_of_name (codes "=") ∷ word (codes "b") ∷ []) Unexpected 2
unfolding read symbol_at class_at bytes_at Rattle.lp_syntax.specs.Classes.lower Rattle.lp_syntax.specs.Classes.symbol fits_left fits_right is_item separates
behind_a_postfix_form = refl

-- `a + b q - c, with postfix q 10`
taken_by_postfix : HasFault ((codes "q", (Postfix, 10)) ∷ []) (word (codes "a") ∷ symbol_of_name (codes "+") ∷ word (codes "b") ∷ word (codes "q") ∷ symbol_of_name (codes "-") ∷ word (codes "c") ∷ []) Unexpected 4
unfolding read symbol_at class_at bytes_at Rattle.lp_syntax.specs.Classes.lower Rattle.lp_syntax.specs.Classes.symbol fits_left fits_right is_item separates
taken_by_postfix = refl

-- `1 + p 2, with prefix p 20`
weak_prefix : HasFault ((codes "p", (Prefix, 20)) ∷ []) (number 1 ∷ symbol_of_name (codes "+") ∷ word (codes "p") ∷ number 2 ∷ []) Unexpected 2
unfolding read symbol_at class_at bytes_at Rattle.lp_syntax.specs.Classes.lower Rattle.lp_syntax.specs.Classes.symbol fits_left fits_right is_item separates
weak_prefix = refl

-- `[true ; true]`
weak_in_an_item : HasFault ([]) (marked kind.OpenList ∷ word (codes "true") ∷ symbol_of_name (codes ";") ∷ word (codes "true") ∷ marked kind.CloseList ∷ []) Unexpected 2
unfolding read symbol_at class_at bytes_at Rattle.lp_syntax.specs.Classes.lower Rattle.lp_syntax.specs.Classes.symbol fits_left fits_right is_item separates
weak_in_an_item = refl

-- `[a, b o c, with infixr o 110`
comma_of_a_list : HasFault ((codes "o", (Infixr, 110)) ∷ []) (marked kind.OpenList ∷ word (codes "a") ∷ symbol_of_name (codes ",") ∷ word (codes "b") ∷ word (codes "o") ∷ word (codes "c") ∷ []) Unexpected 4
unfolding read symbol_at class_at bytes_at Rattle.lp_syntax.specs.Classes.lower Rattle.lp_syntax.specs.Classes.symbol fits_left fits_right is_item separates
comma_of_a_list = refl

-- `f div\ x`
bound_operator : HasFault ([]) (word (codes "f") ∷ word (codes "div") ∷ marked kind.Backslash ∷ word (codes "x") ∷ []) Unexpected 2
unfolding read symbol_at class_at bytes_at Rattle.lp_syntax.specs.Classes.lower Rattle.lp_syntax.specs.Classes.symbol fits_left fits_right is_item separates
bound_operator = refl

-- `~\ x`
bound_prefix : HasFault ([]) (symbol_of_name (codes "~") ∷ marked kind.Backslash ∷ word (codes "x") ∷ []) Unexpected 1
unfolding read symbol_at class_at bytes_at Rattle.lp_syntax.specs.Classes.lower Rattle.lp_syntax.specs.Classes.symbol fits_left fits_right is_item separates
bound_prefix = refl

-- `div\ x`
operator_first : HasFault ([]) (word (codes "div") ∷ marked kind.Backslash ∷ word (codes "x") ∷ []) Unexpected 0
unfolding read symbol_at class_at bytes_at Rattle.lp_syntax.specs.Classes.lower Rattle.lp_syntax.specs.Classes.symbol fits_left fits_right is_item separates
operator_first = refl

-- `[a | b | c]`
two_tails : HasFault ([]) (marked kind.OpenList ∷ word (codes "a") ∷ marked kind.Bar ∷ word (codes "b") ∷ marked kind.Bar ∷ word (codes "c") ∷ marked kind.CloseList ∷ []) Unexpected 4
unfolding read symbol_at class_at bytes_at Rattle.lp_syntax.specs.Classes.lower Rattle.lp_syntax.specs.Classes.symbol fits_left fits_right is_item separates
two_tails = refl

-- `f (a]`
other_bracket : HasFault ([]) (word (codes "f") ∷ marked kind.Open ∷ word (codes "a") ∷ marked kind.CloseList ∷ []) Unexpected 3
unfolding read symbol_at class_at bytes_at Rattle.lp_syntax.specs.Classes.lower Rattle.lp_syntax.specs.Classes.symbol fits_left fits_right is_item separates
other_bracket = refl

-- `f (a`
open_bracket : read (symbols [] (word (codes "f") ∷ marked kind.Open ∷ word (codes "a") ∷ [])) ≡ Unfinished
unfolding read symbol_at class_at bytes_at Rattle.lp_syntax.specs.Classes.lower Rattle.lp_syntax.specs.Classes.symbol fits_left fits_right is_item separates
open_bracket = refl

-- `i`, `i -> i -> o`, `(i -> i) -> o` and `list (list i)`
of_a_word : type_depth (Named 0) ≡ 1
of_a_word = refl

of_a_chain : type_depth (Arrows (Named 0) (Arrows (Named 2) (Named 4))) ≡ 2
of_a_chain = refl

of_a_function : type_depth (Arrows (Arrows (Named 1) (Named 3)) (Named 6)) ≡ 3
of_a_function = refl

of_a_list_type : type_depth (Applied (Named 0) (Applied (Named 2) (Named 3))) ≡ 3
of_a_list_type = refl

-- `f a b c` is 2 deep, `[a, b]` is 3, `a, b, c` is 3, and `f x\ x y` is 4
of_arguments : (ls : List Lexeme) → HasDepth ls (App (App (App (Leaf 0) (Leaf 1)) (Leaf 2)) (Leaf 3)) 2
of_arguments ls = applied _ _ 2 2 1 (applied _ _ 2 2 1 (applied _ _ 2 1 1 (leaf 0) (leaf 1) refl) (leaf 2) refl) (leaf 3) refl

of_a_list : (ls : List Lexeme) → HasDepth ls (cons 0 (Leaf 1) (cons 2 (Leaf 3) (Nil 4))) 3
of_a_list ls = applied _ _ 3 2 2 (applied _ _ 2 1 1 (cons_leaf 0) (leaf 1) refl) (applied _ _ 2 2 1 (applied _ _ 2 1 1 (cons_leaf 2) (leaf 3) refl) (nil 4) refl) refl

of_commas : (ls : List Lexeme) → HasDepth ls (binary 1 (Leaf 0) (binary 3 (Leaf 2) (Leaf 4))) 3
of_commas ls = applied _ _ 3 2 2 (applied _ _ 2 1 1 (leaf 1) (leaf 0) refl) (applied _ _ 2 2 1 (applied _ _ 2 1 1 (leaf 3) (leaf 2) refl) (leaf 4) refl) refl

of_a_body : (ls : List Lexeme) → HasDepth ls (App (Leaf 0) (Lam 1 None (App (Leaf 3) (Leaf 4)))) 4
of_a_body ls = applied _ _ 4 1 3 (leaf 0) (abstracted 1 _ 3 2 (applied _ _ 2 1 1 (leaf 3) (leaf 4) refl) refl) refl
