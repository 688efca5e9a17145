-- Closures: an abstraction, and one below a suspension that is not carried inwards.
use Rattle.std.proofs.Common.{◌≡◌, ℕ, ◌<◌, inl, inr, ◌∷◌, length, refl, sym, ap, ◌∙◌, subst}
use Rattle.lp_calculus.specs.Term.{abs, shift}
use Rattle.lp_calculus.proofs.Plain.{shift-none}
use Rattle.lp_store.specs.declared.cell.Cell.TheVariants.{Abs, Susp}
use Rattle.lp_store.specs.declared.cell.CellId.{CellId}
use Rattle.lp_store.specs.Contents.{Contents, cell_at, env_list}
use Rattle.lp_store.specs.Reading.{Leads, here, through, IsAmong, parts, values}
use Rattle.lp_store.specs.Sound.{IsSound, Stands}
use Rattle.lp_store.proofs.Envs.{env-nil}
use Rattle.lp_store.proofs.Readings.{leads_join}
use Rattle.lp_susp.specs.declared.exposing.Closure.{Closure}
use Rattle.lp_susp.specs.Route.{RefsTo, IsClosure, closure_parts}
use Rattle.lp_susp.proofs.Laws.{raise_pending, raise_carries}
use Rattle.lp_susp.proofs.Chains.{abs_parts, susp_parts, carries_at}
use Rattle.lp_susp.proofs.Routes.{refs_read, refs_lead}

abs_leads : (s : Contents) (e : ℕ) (b : CellId) → cell_at s e ≡ Abs b → Leads s e b.0
abs_leads s e b q = through (subst (λ c. IsAmong b.0 (parts s c)) (sym q) (inl refl)) (here b.0)

abs_within : (s : Contents) (e : ℕ) (b : CellId) → IsSound s → e < length s.cells → cell_at s e ≡ Abs b → b.0 < length s.cells
abs_within s e b v h q = subst (Stands s) q (v.stand e h)

pub plain_closure : (s : Contents) (i e : ℕ) (x : Closure) → IsSound s → RefsTo s i e → e < length s.cells → cell_at s e ≡ Abs x.body → x.pending.ol ≡ 0 → x.pending.nl ≡ 0 → x.pending.env.0 ≡ 0 → IsClosure s i x
plain_closure s i e x v r h q o n w = record {
  body = abs_within s e x.body v h q;
  pending = raise_pending s x.pending w o;
  leads = lead;
  reads = λ t p. (let b = abs_parts s e x.body t q (refs_read r p) in
      (b.0, b.1, raise_carries s x.pending (abs b.0) t w (b.2 ∙ sym (ap (λ k. shift 0 k (abs b.0)) n ∙ shift-none (abs b.0)))));
}
  where
    none : (j : ℕ) → IsAmong j (values (env_list s.envs x.pending.env.0)) → ⊥
    none j m = subst (λ l. IsAmong j (values l)) (ap (env_list s.envs) w ∙ env-nil s.envs) m

    lead : (j : ℕ) → IsAmong j (closure_parts s x) → Leads s i j
    lead j (inl p) = subst (Leads s i) p (leads_join (refs_lead r) (abs_leads s e x.body q))
    lead j (inr m) = absurd (none j m)

pub suspended_closure : (s : Contents) (i a : ℕ) (b : CellId) (k : ℕ) (x : Closure) → IsSound s → RefsTo s i a → a < length s.cells → cell_at s a ≡ Susp b x.pending.ol x.pending.nl x.pending.env → RefsTo s b.0 k → k < length s.cells →
    cell_at s k ≡ Abs x.body → IsClosure s i x
suspended_closure s i a b k x v r h q p g w = record {
  body = abs_within s k x.body v g w;
  pending = (let c = subst (Stands s) q (v.stand a h) in record { within = c.1; entries = c.2; fits = c.3 });
  leads = lead;
  reads = λ t o.
      (let c = susp_parts s a b x.pending.ol x.pending.nl x.pending.env t q (refs_read r o) in
      let d = abs_parts s k x.body c.0 w (refs_read p c.1) in
      (d.0, d.1, carries_at s x.pending c.0 (abs d.0) t d.2 c.2));
}
  where
    among : (j : ℕ) → IsAmong j (b.0 ∷ values (env_list s.envs x.pending.env.0)) → IsAmong j (parts s (cell_at s a))
    among j m = subst (λ c. IsAmong j (parts s c)) (sym q) m

    lead : (j : ℕ) → IsAmong j (closure_parts s x) → Leads s i j
    lead j (inl y) = subst (Leads s i) y (leads_join (refs_lead r) (through (among b.0 (inl refl)) (leads_join (refs_lead p) (abs_leads s k x.body w))))
    lead j (inr m) = leads_join (refs_lead r) (through (among j (inr m)) (here j))
