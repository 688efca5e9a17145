-- A typed term that converts to itself with its atoms renamed comes to one that has only atoms that stay.
use Rattle.std.proofs.Common.{◌≡◌, ℕ, suc, ◌+◌, ◌<◌, ◌≤◌, List, [], ◌∷◌, ◌∙◌, refl, sym, ap, arith, Bool, true, false, if◌then◌else◌, nat_eq}
use Rattle.std.proofs.lemmas.Bool.Decides.{nat_tests}
use Rattle.lp_calculus.specs.Types.{Ty}
use Rattle.lp_calculus.specs.Term.{Term, index, atom, abs, app, apply, Atom, shift, constant, integer, text, eigen, logic, param}
use Rattle.lp_calculus.specs.Convert.{Converts, same, here, by_eta, ConvertAll, convert_none, convert_more}
use Rattle.lp_calculus.specs.Fill.{fill, Within}
use Rattle.lp_calculus.proofs.Fills.{fill_none, within_fill, within_more, shift_closed}
use Rattle.lp_calculus.proofs.Steps.{converts_on, converts_sym, converts_is, converts_step, converts_app, converts_abs, converts_fill, converts_reduces}
use Rattle.lp_unify_laws.proofs.Looks.{converts_spine}
use Rattle.lp_calculus.proofs.Rigid.{heads_joint, EachReaches, reaches_none, reaches_more, head_reaches}
use Rattle.lp_unify_laws.proofs.Closings.{WithinAll, apply_within}
use Rattle.lp_unify_laws.proofs.Typed.{Long, LongAll, long_arrow, long_base, long_none, long_more, renamed, renamed_all, renamed_apply}

-- the abstraction of a parameter
abbrev unlike : ℕ → Atom → Type 0
unlike k (param j A) = j < k
unlike k (eigen j) = Unit {0}
unlike k (logic x l) = Unit {0}
unlike k (constant c ts) = Unit {0}
unlike k (integer z) = Unit {0}
unlike k (text s) = Unit {0}

abbrev placed : ℕ → Atom → Term
placed k (param j A) = if nat_eq j k then index 0 else atom (param j A)
placed k (eigen j) = atom (eigen j)
placed k (logic x l) = atom (logic x l)
placed k (constant c ts) = atom (constant c ts)
placed k (integer z) = atom (integer z)
placed k (text s) = atom (text s)

placed_none : (k : ℕ) (a : Atom) → unlike k a → placed k a ≡ atom a
placed_none k (param j A) h = let q : nat_eq j k ≡ false = grind (arith, nat_tests) in rw q
placed_none k (eigen j) h = refl
placed_none k (logic x l) h = refl
placed_none k (constant c ts) h = refl
placed_none k (integer z) h = refl
placed_none k (text s) h = refl

placed_self : (k : ℕ) (A : Ty) → placed k (param k A) ≡ index 0
placed_self k A = let q : nat_eq k k ≡ true = grind (arith, nat_tests) in rw q

-- a number above those of all parameters in a term
abbrev above : Term → ℕ
above (index i) = 0
above (atom (param j A)) = suc j
above (atom (eigen j)) = 0
above (atom (logic x l)) = 0
above (atom (constant c ts)) = 0
above (atom (integer z)) = 0
above (atom (text s)) = 0
above (abs b) = above b
above (app t u) = above t + above u

unlike_above : (d : ℕ) (t : Term) (k : ℕ) → above t ≤ k → Within (λ a. Unit {0}) d t → Within (unlike k) d t
unlike_above d (index i) k h w = w
unlike_above d (atom (param j A)) k h w = let q : j < k = omega arith in q
unlike_above d (atom (eigen j)) k h w = tt
unlike_above d (atom (logic x l)) k h w = tt
unlike_above d (atom (constant c ts)) k h w = tt
unlike_above d (atom (integer z)) k h w = tt
unlike_above d (atom (text s)) k h w = tt
unlike_above d (abs b) k h w = unlike_above (suc d) b k h w
unlike_above d (app t u) k h w = (unlike_above d t k (omega arith) w.0, unlike_above d u k (omega arith) w.1)

-- what applies to a fresh parameter
param_eta : (k : ℕ) (A : Ty) (t w : Term) → Within (unlike k) 0 t → Converts (app t (atom (param k A))) w → Converts t (abs (fill (placed k) w))
param_eta k A t w h c =
    let gone : fill (placed k) t ≡ shift 0 1 t = fill_none (unlike k) (placed k) (placed_none k) 0 t h ∙ sym (shift_closed (unlike k) t h) in
    converts_on (converts_sym (converts_on (converts_is (λ i. abs (app (gone i) (placed_self k A i)))) (converts_step (here (by_eta t))))) (converts_abs (converts_fill (placed k) c))

abbrev pub Stays : (Atom → Atom) → Atom → Type 0
Stays ρ a = ρ a ≡ a

if_stays : (ρ : Atom → Atom) (b : Bool) (a : Atom) → Stays ρ a → Within (Stays ρ) 1 (if b then index 0 else atom a)
if_stays ρ true a h = let q : 0 < 1 = omega arith in q
if_stays ρ false a h = h

placed_stays : (ρ : Atom → Atom) (k : ℕ) (a : Atom) → Stays ρ a → Within (Stays ρ) 1 (placed k a)
placed_stays ρ k (param j A) h = if_stays ρ (nat_eq j k) (param j A) h
placed_stays ρ k (eigen j) h = h
placed_stays ρ k (logic x l) h = h
placed_stays ρ k (constant c ts) h = h
placed_stays ρ k (integer z) h = h
placed_stays ρ k (text s) h = h

pub record StaysTo (ρ : Atom → Atom) (u : Term) : Type 0 where
  pub to : Term
  pub converts : Converts u to
  pub within : Within (Stays ρ) 0 to

pub record AllStay (ρ : Atom → Atom) (us : List Term) : Type 0 where
  pub to : List Term
  pub converts : ConvertAll us to
  pub within : WithinAll (Stays ρ) to

-- the arguments of a closed term
data Closed : List Term → List Term → Type 0 where
  closed_none : Closed [] []
  closed_more : {t : Term} {ts us : List Term} → (u : Term) → Converts u t → Within (λ a. Unit {0}) 0 u → Closed ts us → Closed (t ∷ ts) (u ∷ us)

closed_of : {ts : List Term} → EachReaches (λ a. Unit {0}) ts → (us : List Term) × Closed ts us
closed_of reaches_none = ([], closed_none)
closed_of (reaches_more u r w all) = let z = closed_of all in (u ∷ z.0, closed_more u (converts_sym (converts_reduces r)) w z.1)

closed_converts : {ts us : List Term} → Closed ts us → ConvertAll ts us
closed_converts closed_none = convert_none
closed_converts (closed_more u c w all) = convert_more (converts_sym c) (closed_converts all)

mutual
  pub stays_to : (τ : Atom → Ty) (ρ : Atom → Atom) → ((k : ℕ) (A : Ty) → ρ (param k A) ≡ param k A) → {T : Ty} {t : Term} → Long τ T t → (u : Term) → Converts u t → Within (λ a. Unit {0}) 0 u → Converts (renamed ρ u) u → StaysTo ρ u
  stays_to τ ρ p (long_arrow {A = A} {t = t} f) u c w e =
      let k = above u in
      let x = atom (param k A) in
      let i = stays_to τ ρ p (f k) (app u x) (converts_app c (same x)) (w, tt) (converts_app e (converts_is (ap atom (p k A)))) in
      record {
        to = abs (fill (placed k) i.to);
        converts = param_eta k A u i.to (unlike_above 0 u k (omega arith) w) i.converts;
        within = within_fill (Stays ρ) (Stays ρ) (placed k) 1 (placed_stays ρ k) i.to (within_more (Stays ρ) (Stays ρ) 0 1 (λ a h. h) (omega arith) i.to i.within);
      }
  stays_to τ ρ p (long_base b a ts d all) u c w e =
      let h = head_reaches (λ a. Unit {0}) (atom a) ts u tt (converts_sym (converts_on c d)) w in
      let z = closed_of h.1 in
      let v = apply (atom a) z.0 in
      let is : Converts u v = converts_on c (converts_on d (converts_spine (closed_converts z.1) (same (atom a)))) in
      let both : Converts (apply (atom (ρ a)) (renamed_all ρ z.0)) v =
      converts_on (converts_is (sym (renamed_apply ρ (atom a) z.0))) (converts_on (converts_fill (λ a. atom (ρ a)) (converts_sym is)) (converts_on e is)) in
      let j = heads_joint (atom (ρ a)) (atom a) (renamed_all ρ z.0) z.0 tt tt both in
      let q : ρ a ≡ a = (let g = j.heads in cc) in
      let i = all_stay τ ρ p all z.1 j.arguments in
      record {
        to = apply (atom a) i.to;
        converts = converts_on is (converts_spine i.converts (same (atom a)));
        within = apply_within (Stays ρ) i.to (atom a) q i.within;
      }

  all_stay : (τ : Atom → Ty) (ρ : Atom → Atom) → ((k : ℕ) (A : Ty) → ρ (param k A) ≡ param k A) → {T U : Ty} {ts : List Term} → LongAll τ T ts U → {us : List Term} → Closed ts us → ConvertAll (renamed_all ρ us) us → AllStay ρ us
  all_stay τ ρ p long_none closed_none e = record { to = []; converts = convert_none; within = tt }
  all_stay τ ρ p (long_more l all) (closed_more u c w more) (convert_more e es) =
      let i = stays_to τ ρ p l u c w e in
      let z = all_stay τ ρ p all more es in
      record { to = i.to ∷ z.to; converts = convert_more i.converts z.converts; within = (i.within, z.within) }
