-- What is written of what a search tells: the lines of its answers, numbered from 1, and the last line.
use Rattle.std.specs.Prelude.{◌≡◌, ◌⊎◌, ◌<◌, ◌≤◌, ℕ, suc, IsSome, List, [], ◌∷◌, ◌++◌, length, map, Option, None, Some}
use Rattle.lp_base.specs.declared.status.Status.{Status}
use Rattle.lp_base.specs.declared.status.Status.TheVariants as variant
use Rattle.lp_lemmas.specs.Each.{AnyOf}
use Rattle.lp_calculus.specs.Convert.{leftmost_step, steps}
use Rattle.lp_calculus.specs.Normal.{IsFormOf, nodes}
use Rattle.lp_calculus.specs.Term.{Term}
use Rattle.lp_model.specs.Branch.{Answer}
use Rattle.lp_model.specs.Pair.{Pair}
use Rattle.lp_model.specs.Shown.{Entry, shown_answer}
use Rattle.lp_model.specs.Skeleton.{Told}
use Rattle.lp_model.specs.declared.ending.Ending.{Ending}
use Rattle.lp_model.specs.declared.ending.Ending.TheVariants.{Deep}
use Rattle.lp_show.specs.Forms.{AreForms, sides_of, values_of}
use Rattle.lp_lines.specs.Lines.{ending_line, ending_status, memory_line}

-- answers

-- a side of a residual pair is shown in its beta-eta normal form, which has at most 1,000,000 nodes
pub record IsShownAs (t s : Term) : Type 0 where
  pub form : IsFormOf t s
  pub small : nodes s ≤ 1000000

-- both sides of each pair
abbrev pub ArePairsShown : List Pair → (forms : List (Term × Term)) → Type 0
ArePairsShown [] [] = Unit {0}
ArePairsShown [] (q ∷ qs) = ⊥
ArePairsShown (p ∷ ps) [] = ⊥
ArePairsShown (p ∷ ps) (q ∷ qs) = IsShownAs p.left q.0 × IsShownAs p.right q.1 × ArePairsShown ps qs

-- the lines of an answer, where these are the constants and the names of the query's variables: its values and pairs are shown in their normal forms
pub record IsLines (es : List Entry) (ns : List (List ℕ)) (number : ℕ) (a : Answer) (text : List ℕ) : Type 0 where
  pub forms : List Term
  pub sides : List (Term × Term)
  pub are_forms : AreForms ns a.values forms
  pub are_sides : ArePairsShown a.pairs sides
  pub is : text ≡ shown_answer es number ns forms sides

-- those of answers one after the other, numbered from here on
abbrev pub AreLines : List Entry → List (List ℕ) → (number : ℕ) → List Answer → (text : List ℕ) → Type 0
AreLines es ns k [] text = text ≡ []
AreLines es ns k (a ∷ bs) text = (lines : List ℕ) × (more : List ℕ) × IsLines es ns k a lines × AreLines es ns (suc k) bs more × (text ≡ lines ++ more)

-- an answer cannot be shown: of one of its terms the leftmost reduction takes more than 1,000,000 steps, or the beta-eta normal form has more than 1,000,000 nodes
abbrev pub IsTooLarge : Term → Type 0
IsTooLarge t = IsSome (steps leftmost_step 1000001 t) ⊎ ((s : Term) × IsFormOf t s × (1000000 < nodes s))

abbrev pub terms_shown : List (List ℕ) → Answer → List Term
terms_shown ns a = values_of ns a.values ++ sides_of (map (λ p. (p.left, p.right)) a.pairs)

abbrev pub CannotBeShown : List (List ℕ) → Answer → Type 0
CannotBeShown ns a = AnyOf IsTooLarge (terms_shown ns a)

-- endings

-- The ending that the last line tells, where the search tells the answers `left` behind those that are shown, and ends so: its own, or too deep at an answer that cannot
-- be shown. A search is told to be too deep at a limit of the program, too; it is so by itself where what is `exact` holds.
pub data IsEnd (exact : Type 0) (ns : List (List ℕ)) (left : List Answer) (ending : Option Ending) : Ending → Type 0 where
  as_told : (e : Ending) → left ≡ [] → ending ≡ Some e → IsEnd exact ns left ending e
  too_large : (a : Answer) (more : List Answer) → left ≡ a ∷ more → CannotBeShown ns a → IsEnd exact ns left ending Deep
  too_deep : (exact → (left ≡ []) × (ending ≡ Some Deep)) → IsEnd exact ns left ending Deep

-- the last line, and behind it the reports of the watchers, which may be these at such an ending; or memory ran out
pub data IsLast (exact : Type 0) (ns : List (List ℕ)) (may : Ending → (reports : List ℕ) → Type 0) (left : List Answer) (ending : Option Ending) (status : Status) (text : List ℕ) : Type 0 where
  an_ending : (e : Ending) (reports : List ℕ) → IsEnd exact ns left ending e → may e reports → status ≡ ending_status e → text ≡ ending_line e ++ reports → IsLast exact ns may left ending status text
  no_memory : status ≡ variant.Memory → text ≡ memory_line → IsLast exact ns may left ending status text

-- what is written of a search that tells this: its answers in order, or those before an answer that cannot be shown, or before a limit is met, and the last line. Behind so many answers a
-- search is too deep by itself where what is `exact` there holds
pub record IsWritten (exact : (answers : ℕ) → Type 0) (es : List Entry) (ns : List (List ℕ)) (may : Ending → (reports : List ℕ) → Type 0) (told : Told Answer) (status : Status) (text : List ℕ) : Type 0 where
  pub shown : List Answer
  pub left : List Answer
  pub answers : told.answers ≡ shown ++ left
  pub lines : List ℕ
  pub are_lines : AreLines es ns 1 shown lines
  pub last : List ℕ
  pub is_last : IsLast (exact (length shown)) ns may left told.ending status last
  pub wrote : text ≡ lines ++ last

-- of a search that has told this and is not over, the answers come first in what is written
pub record IsBegun (es : List Entry) (ns : List (List ℕ)) (told : Told Answer) (text : List ℕ) : Type 0 where
  pub lasts : told.ending ≡ None
  pub lines : List ℕ
  pub are_lines : AreLines es ns 1 told.answers lines
  pub behind : List ℕ
  pub wrote : text ≡ lines ++ behind
