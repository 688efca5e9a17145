-- A string that a cell reads as, where the cell is exposed.
use Rattle.std.proofs.Common.{◌≡◌, ℕ, List, length, refl, sym, ap, ◌∙◌, subst}
use Rattle.lp_calculus.specs.Term.{atom, app, apply, text}
use Rattle.lp_store.specs.declared.cell.Cell.{Cell}
use Rattle.lp_store.specs.declared.cell.Cell.TheVariants.{TypeVar, TypeCon, TypeArrow, Ref, Const, Int, Text, Eigen, Logic, Index, Abs, App, Susp}
use Rattle.lp_store.specs.declared.cell.Span.{Span}
use Rattle.lp_store.specs.Contents.{Contents, cell_at, span}
use Rattle.lp_store.specs.Reading.{Reads}
use Rattle.lp_store.specs.Change.{with_bytes}
use Rattle.lp_store.specs.Sound.{IsSound, Stands}
use Rattle.lp_store.proofs.Changes.{parts_read}
use Rattle.lp_susp.specs.Kept.{IsExposed}
use Rattle.lp_susp.proofs.Chains.{app_parts, span_made}
use Rattle.lp_susp.proofs.Heads.{application_apply}
use Rattle.lp_susp.proofs.Redexes.{some_read}

pub string_cell : (s : Contents) (i : ℕ) (c : Cell) (b : List ℕ) → c ≡ cell_at s i → IsSound s → Stands s c → IsExposed (cell_at s i) → Reads s i (atom (text b)) → (l : Span) × (c ≡ Text l) × (span s.bytes l.from l.count ≡ b)
string_cell s i c b e v h x p = at c (sym e) h (subst IsExposed (sym e) x)
  where
    at : (d : Cell) → cell_at s i ≡ d → Stands s d → IsExposed d → (l : Span) × (d ≡ Text l) × (span s.bytes l.from l.count ≡ b)
    at (Ref to) o w y = absurd y
    at (Susp f ol nl env) o w y = absurd y
    at TypeVar o w y = absurd (parts_read s i TypeVar o p).5
    at (TypeCon a l) o w y = absurd (parts_read s i (TypeCon a l) o p).5
    at (TypeArrow a f) o w y = absurd (parts_read s i (TypeArrow a f) o p).5
    at (Int z) o w y = (let q = (parts_read s i (Int z) o p).4 in absurd (cc))
    at (Text l) o w y = (let q : atom (text b) ≡ atom (text (span s.bytes l.from l.count)) = (parts_read s i (Text l) o p).4 in (l, refl, cc))
    at (Const n l) o w y = (let q = (parts_read s i (Const n l) o p).4 in absurd (cc))
    at (Eigen k) o w y = (let q = (parts_read s i (Eigen k) o p).4 in absurd (cc))
    at (Logic l) o w y = (let q = (parts_read s i (Logic l) o p).4 in absurd (cc))
    at (Index k) o w y = (let q = (parts_read s i (Index k) o p).4 in absurd (cc))
    at (Abs f) o w y = (let q = (parts_read s i (Abs f) o p).4 in absurd (cc))
    at (App f l) o w y =
        let k = app_parts s i f l (atom (text b)) o p in
        let u = some_read s s.items l.from l.count w.1 w.2 k.1 k.3 in
        let a = application_apply (app k.0 u.0) u.1 (k.0, u.0, refl) in
        let q : atom (text b) ≡ app a.0 a.1 = k.4 ∙ ap (apply k.0) u.2 ∙ a.2 in
        absurd (cc)

-- the bytes of a cell that is a string
pub string_bytes : (s : Contents) (i : ℕ) (l : Span) (b : List ℕ) → Text l ≡ cell_at s i → Reads s i (atom (text b)) → span s.bytes l.from l.count ≡ b
string_bytes s i l b e p = (let q : atom (text b) ≡ atom (text (span s.bytes l.from l.count)) = (parts_read s i (Text l) (sym e) p).4 in cc)

-- a string that is put
pub text_made : (s z : Contents) (l : Span) (xs b : List ℕ) → z ≡ with_bytes s xs → l.from ≡ length s.bytes → l.count ≡ length xs → xs ≡ b → span z.bytes l.from l.count ≡ b
text_made s z l xs b e f n q = ap (λ y. span y.bytes l.from l.count) e ∙ span_made s.bytes xs l.from l.count f n ∙ q
