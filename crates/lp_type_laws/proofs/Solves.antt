-- Solving gives a most general solution, fails only where there is none, and ends.
use Rattle.std.proofs.Common.{◌≡◌, ℕ, zero, suc, List, [], ◌∷◌, ◌++◌, map, refl, sym, ap, ◌∙◌, subst}
use mathlib.Core.Path.{fun_ext}
use Rattle.lp_calculus.specs.Types.{Ty, var, instance}
use Rattle.lp_calculus.proofs.TypeLaws.{instance-instance}
use Rattle.lp_type_laws.specs.Equations.{Equation, equation, AllHold, IsMostGeneral, HaveNoSolution, one, put_equation}
use Rattle.lp_type_laws.specs.Solving.{Look, nothing, parts, binds, clash, look, Outcome, unfinished, fails, solved, solve}
use Rattle.lp_type_laws.proofs.Types.{instance-var, one_same, one_fixes, one_absent}
use Rattle.lp_type_laws.proofs.Looks.{Right, look_right}

-- equations under a replacement

pub hold_put : (ρ θ : ℕ → Ty) (es : List Equation) → AllHold ρ (map (put_equation θ) es) → AllHold (λ i. instance ρ (θ i)) es
hold_put ρ θ [] h = tt
hold_put ρ θ (equation a b ∷ es) h = (sym (instance-instance θ ρ a) ∙ h.0 ∙ instance-instance θ ρ b, hold_put ρ θ es h.1)

pub put_hold : (ρ θ : ℕ → Ty) (es : List Equation) → AllHold (λ i. instance ρ (θ i)) es → AllHold ρ (map (put_equation θ) es)
put_hold ρ θ [] h = tt
put_hold ρ θ (equation a b ∷ es) h = (instance-instance θ ρ a ∙ h.0 ∙ sym (instance-instance θ ρ b), put_hold ρ θ es h.1)

pub hold_append : (ρ : ℕ → Ty) (ds es : List Equation) → AllHold ρ ds → AllHold ρ es → AllHold ρ (ds ++ es)
hold_append ρ [] es h k = k
hold_append ρ (d ∷ ds) es h k = (h.0, hold_append ρ ds es h.1 k)

pub hold_front : (ρ : ℕ → Ty) (ds es : List Equation) → AllHold ρ (ds ++ es) → AllHold ρ ds
hold_front ρ [] es h = tt
hold_front ρ (d ∷ ds) es h = (h.0, hold_front ρ ds es h.1)

pub hold_back : (ρ : ℕ → Ty) (ds es : List Equation) → AllHold ρ (ds ++ es) → AllHold ρ es
hold_back ρ [] es h = h
hold_back ρ (d ∷ ds) es h = hold_back ρ ds es h.1

pub agree_hold : (ρ κ : ℕ → Ty) → ((x : ℕ) → ρ x ≡ κ x) → (es : List Equation) → AllHold ρ es → AllHold κ es
agree_hold ρ κ e es h = subst (λ θ. AllHold θ es) (fun_ext e) h

-- what is still to be put for the variables, after those that were bound
pub record Rest (es : List Equation) (θ κ : ℕ → Ty) : Type 0 where
  pub rest : ℕ → Ty
  pub general : IsMostGeneral es rest
  pub is : (x : ℕ) → κ x ≡ instance rest (θ x)

if_solved : {θ κ : ℕ → Ty} → solved θ ≡ solved κ → (x : ℕ) → θ x ≡ κ x
if_solved {θ} {κ} e x = ap (λ o. elim o [ unfinished ↦ θ x | fails ↦ θ x | solved ι ↦ ι x ]) e

at_end : (θ κ : ℕ → Ty) → solved θ ≡ solved κ → Rest [] θ κ
at_end θ κ e = record { rest = var; general = record { solves = tt; first = λ ρ h x. refl }; is = λ x. sym (if_solved e x) ∙ sym (instance-var (θ x)) }

-- x bound to t
bound : (a b : Ty) (es : List Equation) (x : ℕ) (t : Ty) (θ κ : ℕ → Ty) → Right a b (binds x t) → Rest (map (put_equation (one x t)) es) (λ i. instance (one x t) (θ i)) κ → Rest (equation a b ∷ es) θ κ
bound a b es x t θ κ r R =
    let σ : ℕ → Ty = λ i. instance R.rest (one x t i) in
    let here : σ x ≡ instance σ t = ap (instance R.rest) (one_same x t) ∙ ap (instance R.rest) (sym (one_absent x t t r.0)) ∙ instance-instance (one x t) R.rest t in
    record {
      rest = σ;
      general = record {
        solves = ((r.1 σ).0 here, hold_put R.rest (one x t) es R.general.solves);
        first = λ ρ h y.
            let fixes = one_fixes ρ x t ((r.1 ρ).1 h.0) in
            let held : AllHold ρ (map (put_equation (one x t)) es) = put_hold ρ (one x t) es (agree_hold ρ (λ i. instance ρ (one x t i)) (λ i. sym (fixes i)) es h.1) in
            instance-instance R.rest ρ (one x t y) ∙ ap (λ θ. instance θ (one x t y)) (fun_ext (R.general.first ρ held)) ∙ fixes y;
      };
      is = λ y. R.is y ∙ instance-instance (one x t) R.rest (θ y);
    }

-- an equation taken, where the rest is known
abbrev pub Next : ℕ → List Equation → (ℕ → Ty) → Look → Outcome
Next n es θ l = elim l [ nothing ↦ solve n es θ | parts ps ↦ solve n (ps ++ es) θ | binds x t ↦ solve n (map (put_equation (one x t)) es) (λ i. instance (one x t) (θ i)) | clash ↦ fails ]

sound_next : (n : ℕ) (κ : ℕ → Ty) → ((fs : List Equation) (ι : ℕ → Ty) → solve n fs ι ≡ solved κ → Rest fs ι κ) → (a b : Ty) (es : List Equation) (θ : ℕ → Ty) (l : Look) → Right a b l → Next n es θ l ≡ solved κ → Rest (equation a b ∷ es) θ κ
sound_next n κ ih a b es θ nothing r f =
    let R = ih es θ f in
    record { rest = R.rest; general = record { solves = (r R.rest, R.general.solves); first = λ ρ h. R.general.first ρ h.1 }; is = R.is }
sound_next n κ ih a b es θ (parts ps) r f =
    let R = ih (ps ++ es) θ f in
    record {
      rest = R.rest;
      general = record {
        solves = ((r R.rest).0 (hold_front R.rest ps es R.general.solves), hold_back R.rest ps es R.general.solves);
        first = λ ρ h. R.general.first ρ (hold_append ρ ps es ((r ρ).1 h.0) h.1);
      };
      is = R.is;
    }
sound_next n κ ih a b es θ (binds x t) r f = bound a b es x t θ κ r (ih (map (put_equation (one x t)) es) (λ i. instance (one x t) (θ i)) f)
sound_next n κ ih a b es θ clash r f = cc

pub solve_sound : (n : ℕ) (es : List Equation) (θ κ : ℕ → Ty) → solve n es θ ≡ solved κ → Rest es θ κ
solve_sound zero [] θ κ e = at_end θ κ e
solve_sound zero (f ∷ es) θ κ e = cc
solve_sound (suc n) [] θ κ e = at_end θ κ e
solve_sound (suc n) (equation a b ∷ es) θ κ e = sound_next n κ (λ fs ι. solve_sound n fs ι κ) a b es θ (look a b) (look_right a b) e

pub solves : (n : ℕ) (es : List Equation) (θ : ℕ → Ty) → solve n es var ≡ solved θ → IsMostGeneral es θ
solves n es θ e =
    let R = solve_sound n es var θ e in
    subst (λ κ. IsMostGeneral es κ) (sym (fun_ext R.is)) R.general

fails_next : (n : ℕ) → ((fs : List Equation) (ι : ℕ → Ty) → solve n fs ι ≡ fails → HaveNoSolution fs) → (a b : Ty) (es : List Equation) (θ : ℕ → Ty) (l : Look) → Right a b l → Next n es θ l ≡ fails → HaveNoSolution (equation a b ∷ es)
fails_next n ih a b es θ nothing r f = λ ρ h. ih es θ f ρ h.1
fails_next n ih a b es θ (parts ps) r f = λ ρ h. ih (ps ++ es) θ f ρ (hold_append ρ ps es ((r ρ).1 h.0) h.1)
fails_next n ih a b es θ (binds x t) r f = λ ρ h.
    let fixes = one_fixes ρ x t ((r.1 ρ).1 h.0) in
    ih (map (put_equation (one x t)) es) (λ i. instance (one x t) (θ i)) f ρ (put_hold ρ (one x t) es (agree_hold ρ (λ i. instance ρ (one x t i)) (λ i. sym (fixes i)) es h.1))
fails_next n ih a b es θ clash r f = λ ρ h. r ρ h.0

pub fails_rightly : (n : ℕ) (es : List Equation) (θ : ℕ → Ty) → solve n es θ ≡ fails → HaveNoSolution es
fails_rightly zero [] θ e = cc
fails_rightly zero (f ∷ es) θ e = cc
fails_rightly (suc n) [] θ e = cc
fails_rightly (suc n) (equation a b ∷ es) θ e = fails_next n (fails_rightly n) a b es θ (look a b) (look_right a b) e
