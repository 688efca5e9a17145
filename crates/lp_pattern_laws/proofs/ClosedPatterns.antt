-- Pattern terms without variables and eigenconstants above a level, and with no loose index.
use Rattle.std.proofs.Common.{◌≡◌, ℕ, ◌<◌, ◌≤◌, List, [], refl, ap, ◌∙◌, subst as transport, arith}
use mathlib.Core.Path.{fun_ext}
use Rattle.lp_calculus.specs.Types.{var}
use Rattle.lp_calculus.specs.Term.{Term, index, atom, abs, app, Atom, constant, integer, text, eigen, logic, param}
use Rattle.lp_calculus.specs.Convert.{ReducesTo}
use Rattle.lp_calculus.specs.Fill.{Within, fill, at_variables}
use Rattle.lp_calculus.specs.Normal.{IsHead}
use Rattle.lp_calculus.specs.Spine.{arguments, head_of}
use Rattle.lp_calculus.proofs.Eta.{app_same}
use Rattle.lp_calculus.proofs.Fills.{subst_closed}
use Rattle.lp_calculus.proofs.Steps.{within_reduces}
use Rattle.lp_lemmas.specs.Each.{EachOf}
use Rattle.lp_model.specs.Index.{instantiate}
use Rattle.lp_model.specs.Pair.{Closing, closed}
use Rattle.lp_proof_laws.proofs.Uniform.Openings.{instantiate_subst}
use Rattle.lp_search_laws.proofs.RunsKeep.{instance_itself}
use Rattle.lp_pattern_laws.specs.Patterns.{free, IsNewTo, IsPattern, of_atom}
use Rattle.lp_pattern_laws.specs.Binders.{Binder, IsAtLevel, IsOpening, HasPatternValues}
use Rattle.lp_pattern_laws.specs.Goals.{StaysPattern}
use Rattle.lp_pattern_laws.proofs.Carried.{value_opens}
use Rattle.lp_pattern_laws.proofs.Comes.{parted, pattern_goes}
use Rattle.lp_pattern_laws.proofs.Filled.{atoms_new}
use Rattle.lp_pattern_laws.proofs.Opened.{level_above}
use Rattle.lp_pattern_laws.proofs.Parted.{headed_each}
use Rattle.lp_pattern_laws.proofs.Staying.{LeadsOpening, led_closing, led_opening, stays_led}

abbrev pub IsPatternAt : (level : ℕ) → Term → Type 0
IsPatternAt l t = IsPattern t × Within (IsAtLevel l) 0 t

-- the closing that changes nothing
abbrev as_it_is : Closing
as_it_is = record { types = var; terms = λ x l. atom (logic x l) }

as_it_is_values : HasPatternValues as_it_is
as_it_is_values = λ x l. (of_atom (logic x l), (let q : l ≤ l = omega arith in q))

same_atom : (a : Atom) → at_variables (λ x l. atom (logic x l)) a ≡ atom a
same_atom (logic x l) = refl
same_atom (constant c ts) = refl
same_atom (integer z) = refl
same_atom (text s) = refl
same_atom (eigen k) = refl
same_atom (param k T) = refl

fill_atoms : (t : Term) → fill (λ a. atom a) t ≡ t
fill_atoms (index i) = refl
fill_atoms (atom a) = refl
fill_atoms (abs b) = ap abs (fill_atoms b)
fill_atoms (app t u) = app_same (fill_atoms t) (fill_atoms u)

stays_as_it_is : (t : Term) → closed as_it_is t ≡ t
stays_as_it_is t = ap (fill (at_variables (λ x l. atom (logic x l)))) (instance_itself t) ∙ ap (λ f. fill f t) (fun_ext same_atom) ∙ fill_atoms t

pub opened_as_it_is : (l : ℕ) (Γ : List Binder) (t : Term) → StaysPattern l Γ t → (σ : ℕ → Term) → LeadsOpening l Γ σ → IsPattern (instantiate σ t)
opened_as_it_is l Γ t s σ o = transport (λ u. IsPattern (instantiate σ u)) (stays_as_it_is t) (stays_led l Γ t s as_it_is (led_closing as_it_is as_it_is_values) σ o)

-- with no binder around
pub stays_at : (l : ℕ) (t : Term) → StaysPattern l [] t → IsPatternAt l t
stays_at l t s = (
  transport IsPattern (instantiate_subst index t ∙ subst_closed (IsAtLevel l) index 0 (λ i q. absurd (omega (arith, q))) t s.within)
      (opened_as_it_is l [] t s index (led_opening l [] index none)),
  s.within,
)
  where
    none : IsOpening l [] index
    none = record { universals = λ i e. absurd (cc); existentials = λ i e. absurd (cc); apart = λ i j k e. absurd (cc); new = λ i j k e. absurd (cc) }

pub at_stays : (l : ℕ) (t : Term) → IsPatternAt l t → StaysPattern l [] t
at_stays l t p = record { within = p.1; opens = λ c v σ o. value_opens l t p.0 p.1 c v σ }

pub at_reduces : (l : ℕ) (t u : Term) → ReducesTo t u → IsPatternAt l t → IsPatternAt l u
at_reduces l t u r p = (pattern_goes r p.0, within_reduces (IsAtLevel l) 0 r p.1)

pub at_apart : (l : ℕ) (t u : Term) → IsHead (head_of t) → IsPatternAt l (app t u) → IsPatternAt l t × IsPatternAt l u
at_apart l t u i p = let q = parted t u i p.0 in ((q.0, p.1.0), (q.1, p.1.1))

-- of a term with a head
pub at_arguments : (l : ℕ) (t : Term) → IsHead (head_of t) → IsPatternAt l t → EachOf (IsPatternAt l) (arguments t)
at_arguments l t i p = headed_each (IsPatternAt l) (at_apart l) t [] i p tt

-- what is above the level is new to them
pub above_at : (l k : ℕ) (t : Term) → l < k → IsPatternAt l t → IsNewTo (free k) t
above_at l k t h p = atoms_new (IsAtLevel l) k (λ a w. level_above l k a h w) 0 t p.1
