-- A settled term holds the atoms of each term to which what is settled converts, and eigenconstants.
use Rattle.std.proofs.Common.{◌≡◌, ℕ, suc, List, [], ◌∷◌, sym, subst as transport, arith, Bool, true, false, Some, nat_eq, if◌then◌else◌}
use Rattle.lp_calculus.specs.Term.{Term, Atom, index, atom, abs, app, apply, substitute, constant, integer, text, eigen, logic, param}
use Rattle.lp_calculus.specs.Convert.{Converts, same, here, by_beta}
use Rattle.lp_calculus.specs.Fill.{Within, indexed, abstraction, abstracted}
use Rattle.lp_calculus.specs.Normal.{IsHead}
use Rattle.lp_calculus.proofs.Fills.{within_fill, within_more}
use Rattle.lp_calculus.proofs.Rigid.{EachReaches, reaches_none, reaches_more, head_reaches}
use Rattle.lp_calculus.proofs.Steps.{converts_on, converts_sym, converts_step, converts_reduces, converts_app}
use Rattle.lp_model.specs.Look.{Look, an_abs, rigid, flexible, looked, top_normal}
use Rattle.lp_model.specs.Patterns.{eigens}
use Rattle.lp_model.specs.Scan.{settle}
use Rattle.lp_pattern.specs.Settling.{Settles, settles_abs, settles_rigid, settles_pattern, settles_open, SettleAll, settle_none, settle_more}
use Rattle.lp_pattern.specs.TopLooks.{top_look}
use Rattle.lp_pattern.proofs.Cleans.{top_reduces, top_ended, View, as_abs, as_head, view, looked_head}
use Rattle.lp_pattern.proofs.Compares.{from_map}
use Rattle.lp_pattern.proofs.TopSettles.{settled_in}

-- what a look sees is what the term converts to
abbrev ComesTo : Term → Look → Type 0
ComesTo t (an_abs b) = Converts t (abs b)
ComesTo t (rigid h ts) = IsHead h × Converts t (apply h ts)
ComesTo t (flexible y m ts) = Converts t (apply (atom (logic y m)) ts)

head_seen : (t h : Term) (ts : List Term) → IsHead h → Converts t (apply h ts) → ComesTo t (looked h ts)
head_seen t (index i) ts h c = (tt, c)
head_seen t (atom (constant j us)) ts h c = (tt, c)
head_seen t (atom (integer z)) ts h c = (tt, c)
head_seen t (atom (text b)) ts h c = (tt, c)
head_seen t (atom (eigen k)) ts h c = (tt, c)
head_seen t (atom (logic x l)) ts h c = c
head_seen t (atom (param k u)) ts h c = (tt, c)
head_seen t (abs b) ts h c = absurd h
head_seen t (app f u) ts h c = absurd h

viewed : (t w : Term) → View w → Converts t w → ComesTo t (looked w [])
viewed t w (as_abs b e) c = transport (λ x. ComesTo t (looked x [])) (sym e) (transport (Converts t) e c)
viewed t w (as_head h ts i e) c = transport (λ x. ComesTo t (looked x [])) (sym e) (transport (ComesTo t) (sym (looked_head h ts)) (head_seen t h ts i (transport (Converts t) e c)))

come_to : (limit : ℕ) (t : Term) (v : Look) → top_look limit t ≡ Some v → ComesTo t v
come_to limit t v e =
    let w = from_map (λ x. looked x []) (top_normal limit t) v e in
    transport (ComesTo t) (sym w.2) (viewed t w.0 (view w.0 [] (top_ended limit t w.0 w.1)) (converts_reduces (top_reduces limit t w.0 w.1)))

module _ (P : Atom → Type 0) (local : (k : ℕ) → P (eigen k)) where
  within_indexed : (c : ℕ) (a : Atom) → P a → Within P 1 (indexed c a)
  within_indexed c (constant j us) w = w
  within_indexed c (integer z) w = w
  within_indexed c (text b) w = w
  within_indexed c (eigen k) w = go (nat_eq k c)
    where
      go : (b : Bool) → Within P 1 (if b then index 0 else atom (eigen k))
      go true = omega arith
      go false = w
  within_indexed c (logic x m) w = w
  within_indexed c (param k u) w = w

  within_abstraction : (c : ℕ) (t : Term) → Within P 0 t → Within P 0 (abstraction c t)
  within_abstraction c t w = within_fill P P (indexed c) 1 (within_indexed c) t (within_more P P 0 1 (λ a p. p) (omega arith) t w)

  pub within_abstracted : (cs : List ℕ) (t : Term) → Within P 0 t → Within P 0 (abstracted cs t)
  within_abstracted [] t w = w
  within_abstracted (c ∷ cs) t w = within_abstraction c (abstracted cs t) (within_abstracted cs t w)

  within_eigens : (ks : List ℕ) (h : Term) → Within P 0 h → Within P 0 (apply h (eigens ks))
  within_eigens [] h w = w
  within_eigens (k ∷ ks) h w = within_eigens ks (app h (atom (eigen k))) (w, local k)

  opened_to : (k : ℕ) (b to : Term) → Converts (abs b) to → Converts (substitute (atom (eigen (suc k))) b) (app to (atom (eigen (suc k))))
  opened_to k b to c = converts_on (converts_sym (converts_step (here (by_beta b (atom (eigen (suc k))))))) (converts_app c (same (atom (eigen (suc k)))))

  module _ (limit : ℕ) where
    mutual
      settles_within : (k : ℕ) (t r : Term) → Settles limit k t r → (to : Term) → Converts t to → Within P 0 to → Within P 0 r
      settles_within k t r (settles_abs b u e d q) to c w =
          transport (Within P 0) (sym q)
          (within_abstraction (suc k) u
          (settles_within (suc k) (substitute (atom (eigen (suc k))) b) u d (app to (atom (eigen (suc k)))) (opened_to k b to (converts_on (converts_sym (come_to limit t (an_abs b) e)) c)) (w, local (suc k))))
      settles_within k t r (settles_rigid h ts us e d q) to c w =
          let z = come_to limit t (rigid h ts) e in
          let y = head_reaches P h ts to z.0 (converts_on (converts_sym z.1) c) w in
          transport (Within P 0) (sym q) (settle_all_within k ts us d y.1 h y.0)
      settles_within k t r (settles_pattern y m ts ks e p q) to c w =
          let z = head_reaches P (atom (logic y m)) ts to tt (converts_on (converts_sym (come_to limit t (flexible y m ts) e)) c) w in
          transport (Within P 0) (sym q) (within_eigens ks (atom (logic y m)) z.0)
      settles_within k t r (settles_open y m ts us e p d q) to c w =
          let z = head_reaches P (atom (logic y m)) ts to tt (converts_on (converts_sym (come_to limit t (flexible y m ts) e)) c) w in
          transport (Within P 0) (sym q) (settle_all_within k ts us d z.1 (atom (logic y m)) z.0)

      settle_all_within : (k : ℕ) (ts us : List Term) → SettleAll limit k ts us → EachReaches P ts → (h : Term) → Within P 0 h → Within P 0 (apply h us)
      settle_all_within k [] [] settle_none reaches_none h w = w
      settle_all_within k (t ∷ ts) (u ∷ us) (settle_more d ds) (reaches_more v r i e) h w = settle_all_within k ts us ds e (app h u) (w, settles_within k t u d v (converts_reduces r) i)

  pub settled_within : (n k : ℕ) (t r to : Term) → settle n k t ≡ Some r → Converts t to → Within P 0 to → Within P 0 r
  settled_within n k t r to e c w = settles_within n k t r (settled_in n k t r e) to c w
