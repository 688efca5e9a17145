-- Two modules derived by the rules of the grammar: an operator is one from its own sentence on, `module m. infixr o 110. a o b.`, and not
-- before, `module m. a o b. infixr o 110.`, where `a o b` is `a` on two arguments.
use Rattle.std.proofs.Common.{◌≡◌, ℕ, List, [], ◌∷◌, refl, codes, arith}
use Rattle.std.specs.Prelude.{Option, Some, None, pos}
use Rattle.lp_standard.specs.declared.fixity.Fixity.{Fixity}
use Rattle.lp_standard.specs.declared.fixity.Fixity.TheVariants.{Infixr}
use Rattle.lp_fixity.specs.Table.{with_entry, standard}
use Rattle.lp_syntax.specs.declared.class.Class.TheVariants as class
use Rattle.lp_syntax.specs.declared.class.Keyword.TheVariants as keyword
use Rattle.lp_lexer.specs.declared.token.TokenKind.TheVariants as kind
use Rattle.lp_syntax.specs.Symbols.{Tree, Leaf, App, binary, fits_left, fits_right, is_item, separates}
use Rattle.lp_syntax.specs.Machine.{read}
use Rattle.lp_syntax.specs.Tokens.{Lexeme, Operators, class_at, bytes_at, symbol_at}
use Rattle.lp_syntax.specs.Terms.{TermAt, done, token as spelled}
use Rattle.lp_syntax.specs.Declarations.{Line, FixityLine, none_listed, fixities}
use Rattle.lp_syntax.specs.Signatures.{IsHeader, IsLine}
use Rattle.lp_syntax.specs.Modules.{Declared, Said, declares, says, HasOtherIn, none_declared, one_declared, Follows, no_sentence, one_sentence, IsModule}
use Rattle.lp_syntax.proofs.Reading.{term_of_read}
use Rattle.lp_syntax.proofs.Rows.{word, number, marked}

abbrev text : List Lexeme
text =
    word (codes "module") ∷ word (codes "m") ∷ marked kind.Dot ∷
    word (codes "infixr") ∷ word (codes "o") ∷ number 110 ∷ marked kind.Dot ∷
    word (codes "a") ∷ word (codes "o") ∷ word (codes "b") ∷ marked kind.Dot ∷ []

-- the operators behind the first sentence
abbrev later : Operators
later name = with_entry (codes "o", (Infixr, 110)) standard name

abbrev line : Line
line = FixityLine (4 ∷ []) Infixr 110

abbrev tree : Tree
tree = binary 8 (Leaf 7) (Leaf 9)

has_header : IsHeader text keyword.Module
unfolding class_at Rattle.lp_syntax.specs.Classes.lower
has_header = record { first = refl; second = refl; third = refl }

has_line : IsLine text 3 7 line
unfolding class_at Rattle.lp_syntax.specs.Classes.lower
has_line = record {
  word = keyword.Fixity Infixr;
  there = refl;
  body = fixities 4 5 7 110 Infixr (4 ∷ []) (record { final = 4; front = []; before = none_listed; fits = refl; end = refl; all = refl }) (record { written = pos 110; there = refl; is = refl }) (refl, refl);
}

no_other : HasOtherIn standard (codes "o") (Infixr, 110) → ⊥
no_other h = let z : ◌≡◌ {A = Option (Fixity × ℕ)} None (Some h.0) = h.1 in cc

declared : Follows text (Declared line) standard later
unfolding bytes_at
declared = one_declared [] (codes "o" ∷ []) (codes "o") standard later (none_declared standard (λ o. refl)) (record { low = omega arith; free = no_other; is = λ o. refl }) refl

lower_colon : class.Lower ≡ class.Colon → ⊥
lower_colon e = cc

has_term : TermAt later text 7 10 tree
unfolding read symbol_at class_at bytes_at Rattle.lp_syntax.specs.Classes.lower Rattle.lp_syntax.specs.Classes.symbol fits_left fits_right is_item separates
has_term = record {
  symbols = symbol_at later text 7 ∷ symbol_at later text 8 ∷ symbol_at later text 9 ∷ [];
  spells = spelled 7 10 _ (λ e. lower_colon e) (spelled 8 10 _ (λ e. lower_colon e) (spelled 9 10 _ (λ e. lower_colon e) (done 10)));
  is = term_of_read (symbol_at later text 7 ∷ symbol_at later text 8 ∷ symbol_at later text 9 ∷ []) tree refl;
}

is_dot : class_at text 10 ≡ class.Dot
unfolding class_at
is_dot = refl

of_its_own_operator : IsModule standard text (Declared line ∷ Said tree ∷ []) later
of_its_own_operator = record {
  header = has_header;
  sentences = one_sentence later later 7 11 (Declared line ∷ []) (Declared line ∷ Said tree ∷ []) (Said tree) (one_sentence standard later 3 7 [] (Declared line ∷ []) (Declared line) no_sentence (declares line has_line) declared refl) (says 10 tree has_term is_dot refl) (λ name. refl) refl;
}

abbrev other : List Lexeme
other =
    word (codes "module") ∷ word (codes "m") ∷ marked kind.Dot ∷
    word (codes "a") ∷ word (codes "o") ∷ word (codes "b") ∷ marked kind.Dot ∷
    word (codes "infixr") ∷ word (codes "o") ∷ number 110 ∷ marked kind.Dot ∷ []

abbrev other_line : Line
other_line = FixityLine (8 ∷ []) Infixr 110

abbrev other_tree : Tree
other_tree = App (App (Leaf 3) (Leaf 4)) (Leaf 5)

other_header : IsHeader other keyword.Module
unfolding class_at Rattle.lp_syntax.specs.Classes.lower
other_header = record { first = refl; second = refl; third = refl }

other_has_line : IsLine other 7 11 other_line
unfolding class_at Rattle.lp_syntax.specs.Classes.lower
other_has_line = record {
  word = keyword.Fixity Infixr;
  there = refl;
  body = fixities 8 9 11 110 Infixr (8 ∷ []) (record { final = 8; front = []; before = none_listed; fits = refl; end = refl; all = refl }) (record { written = pos 110; there = refl; is = refl }) (refl, refl);
}

other_declared : Follows other (Declared other_line) standard later
unfolding bytes_at
other_declared = one_declared [] (codes "o" ∷ []) (codes "o") standard later (none_declared standard (λ o. refl)) (record { low = omega arith; free = no_other; is = λ o. refl }) refl

other_term : TermAt standard other 3 6 other_tree
unfolding read symbol_at class_at bytes_at Rattle.lp_syntax.specs.Classes.lower Rattle.lp_syntax.specs.Classes.symbol fits_left fits_right is_item separates
other_term = record {
  symbols = symbol_at standard other 3 ∷ symbol_at standard other 4 ∷ symbol_at standard other 5 ∷ [];
  spells = spelled 3 6 _ (λ e. lower_colon e) (spelled 4 6 _ (λ e. lower_colon e) (spelled 5 6 _ (λ e. lower_colon e) (done 6)));
  is = term_of_read (symbol_at standard other 3 ∷ symbol_at standard other 4 ∷ symbol_at standard other 5 ∷ []) other_tree refl;
}

other_dot : class_at other 6 ≡ class.Dot
unfolding class_at
other_dot = refl

before_its_sentence : IsModule standard other (Said other_tree ∷ Declared other_line ∷ []) later
before_its_sentence = record {
  header = other_header;
  sentences = one_sentence standard later 7 11 (Said other_tree ∷ []) (Said other_tree ∷ Declared other_line ∷ []) (Declared other_line)
      (one_sentence standard standard 3 7 [] (Said other_tree ∷ []) (Said other_tree) no_sentence (says 6 other_tree other_term other_dot refl)
      (λ name. refl) refl) (declares other_line other_has_line) other_declared refl;
}
