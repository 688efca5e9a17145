-- Where the header of a text is that of no module.
use Rattle.std.proofs.Common.{◌≡◌, ℕ, suc, ◌≤◌, List, [], ◌∷◌, length, refl, sym, ◌∙◌, subst, arith, codes}
use Rattle.lp_syntax.proofs.Referring.{agree_self}
use Rattle.lp_base.specs.declared.place.Spot.{Spot}
use Rattle.lp_syntax.specs.declared.class.Keyword.TheVariants as keyword
use Rattle.lp_syntax.specs.declared.fault.SyntaxFault.{SyntaxFault}
use Rattle.lp_syntax.specs.Tokens.{Lexeme, Operators, class_at, Agree}
use Rattle.lp_syntax.specs.LineMachine.{LineState, AtHeader, AtWord, AtEnd, LineStep, header, LineRuns, stays, goes, LineStops, StopsIn}
use Rattle.lp_syntax.specs.Signatures.{IsHeader}
use Rattle.lp_syntax.specs.Modules.{AreSentences, no_sentence, ModuleBegins, HeaderFault}
use Rattle.lp_syntax.proofs.Tokens.{class_same, agree_less, going_on, class_stands}
use Rattle.lp_syntax.proofs.Lines.{line_on}
use Rattle.lp_syntax.proofs.LineStops.{line_same, word_token, is_module_token, lower_token, dot_token}
use Rattle.lp_syntax.proofs.LineEnds.{CanEnd, line_ends, to_end}
use Rattle.lp_syntax.proofs.SignatureFaults.{no_line_there, header_runs, header_sound}
use Rattle.lp_syntax.proofs.SignatureTexts.{in_header}

header_begins : (ops : Operators) (ls text : List Lexeme) (n : ℕ) → Agree n ls text → LineRuns text (AtHeader keyword.Module) 0 AtEnd (length text) → ModuleBegins ops ls n
header_begins ops ls text n a d =
    let s = header_sound text keyword.Module (length text) d in
    record { text = text; agrees = a; clauses = []; after = ops; is = record { header = s.0; sentences = subst (λ k. AreSentences text ops 3 ops k []) (sym s.1) no_sentence } }

from_nothing : (ops : Operators) (ls : List Lexeme) → ModuleBegins ops ls 0
from_nothing ops ls =
    let g = going_on 0 ls (word_token (codes "module") ∷ lower_token ∷ dot_token ∷ []) (omega arith) in
    let e = g.long in
    header_begins ops ls g.text 0 g.agrees
    (goes (AtHeader keyword.Module) AtWord AtEnd 0 1 (length g.text) (header keyword.Module (class_stands g.text 0 (word_token (codes "module")) g.stand.0 ∙ is_module_token)) refl
    (to_end g.text AtWord 1 (length g.text) tt g.stand.1 (omega (arith, e))))

later : (ops : Operators) (ls : List Lexeme) (n : ℕ) (r : LineState) → n ≤ length ls → CanEnd r → LineRuns ls (AtHeader keyword.Module) 0 r n → ModuleBegins ops ls n
later ops ls n r l c d =
    let g = going_on n ls (line_ends r) l in
    header_begins ops ls g.text n g.agrees (line_on g.text (AtHeader keyword.Module) r AtEnd 0 n (length g.text) (line_same n ls g.text g.agrees (AtHeader keyword.Module) r 0 n (omega arith) d) (to_end g.text r n (length g.text) c g.stand g.long))

viable_from : (ops : Operators) (ls : List Lexeme) (r : LineState) (n : ℕ) → n ≤ length ls → LineRuns ls (AtHeader keyword.Module) 0 r n → ModuleBegins ops ls n
viable_from ops ls r n l (stays _ _) = from_nothing ops ls
viable_from ops ls r n l (goes _ q _ _ k _ h p d) = first q h d (goes (AtHeader keyword.Module) q r 0 k n h p d)
  where
    first : (q : LineState) → LineStep (class_at ls 0) (AtHeader keyword.Module) q → LineRuns ls q k r n → LineRuns ls (AtHeader keyword.Module) 0 r n → ModuleBegins ops ls n
    first q (header _ _) d e = later ops ls n r l (in_header ls AtWord r k n d refl) e

not_headed : (ls ms : List Lexeme) (n : ℕ) → Agree n ls ms → class_at ms n ≡ class_at ls n → LineStops ls (AtHeader keyword.Module) 0 n → IsHeader ms keyword.Module → ⊥
not_headed ls ms n a e s h = no_line_there ls ms (AtHeader keyword.Module) 0 n 3 a e s (header_runs ms keyword.Module h)

pub module_header_fault : (spot : ℕ → Spot) (ops : Operators) (ls : List Lexeme) (f : SyntaxFault) → StopsIn spot ls (AtHeader keyword.Module) 0 f → HeaderFault spot ops ls f
module_header_fault spot ops ls f s =
    let n = s.number in
    record {
      number = n;
      high = s.there.high;
      no_header = not_headed ls ls n (agree_self n ls s.there.high) refl s.there;
      viable = viable_from ops ls s.there.state n s.there.high s.there.runs;
      first = λ m b. not_headed ls b.text n (agree_less n (suc n) ls b.text (omega arith) b.agrees) (class_same (suc n) n ls b.text b.agrees (omega arith)) s.there b.is.header;
      kind = s.kind;
    }
