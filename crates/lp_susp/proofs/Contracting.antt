-- The suspension that a contraction makes is the substitution of the argument in what the body reads as below its own suspension.
use Rattle.std.proofs.Common.{◌≡◌, ℕ, zero, suc, ◌+◌, ◌-◌, ◌<◌, List, [], ◌∷◌, length, refl, sym, ap, ◌∙◌, subst as transport, arith, add-one, inl}
use Rattle.std.specs.Prelude.{All}
use Rattle.std.proofs.lemmas.List.Elements.{All-cons}
use mathlib.Core.Path.{fun_ext}
use Rattle.lp_calculus.specs.Types.{Ty}
use Rattle.lp_calculus.specs.Term.{Term, abs, replace, shift, substitute}
use Rattle.lp_calculus.proofs.Sigma.{instead, subst, subst-subst, subst-rename, subst-index}
use Rattle.lp_calculus.proofs.Plain.{shift-none, substitute-subst}
use Rattle.lp_store.specs.declared.cell.CellId.{CellId}
use Rattle.lp_store.specs.declared.cell.EnvEntry.{EnvEntry}
use Rattle.lp_store.specs.declared.cell.EnvEntry.TheVariants.{Value}
use Rattle.lp_store.specs.Contents.{Contents, env_list}
use Rattle.lp_store.specs.Reading.{ReadTypes, no_types, Reads, ReadAll, more, values, entry, carried, first, rest, FitsEntry, Avoids, AvoidsAll}
use Rattle.lp_store.specs.Sound.{IsSound}
use Rattle.lp_store.specs.Change.{Extends}
use Rattle.lp_store.proofs.Carrying.{replace-subst_by, carried-lifted, carried-subst, carried-low, carried-high}
use Rattle.lp_susp.specs.declared.carrying.Pending.{Pending}
use Rattle.lp_susp.specs.declared.exposing.Closure.{Closure}
use Rattle.lp_susp.specs.Pending.{IsPending, Carries}
use Rattle.lp_susp.specs.Route.{closure_parts}
use Rattle.lp_susp.proofs.Laws.{read_all_kept}
use Rattle.lp_susp.proofs.Chains.{avoids_kept, avoids_all_kept, avoids_cons, avoids_tail, values_below}

-- the argument in front of an environment
instantiated_at : (nl : ℕ) (es : List EnvEntry) (us : List Term) (x : CellId) (u : Term) (i : ℕ) → carried nl (Value x nl ∷ es) (u ∷ us) 0 i ≡ subst (instead u) (carried nl es us 1 i)
instantiated_at nl es us x u zero =
    let n : nl - nl + 0 ≡ 0 = omega arith in
    carried-high nl (Value x nl ∷ es) (u ∷ us) 0 0 (omega arith) ∙ ap (λ k. shift 0 k u) n ∙ shift-none u ∙ sym (ap (subst (instead u)) (carried-low nl es us 1 0 (omega arith)))
instantiated_at nl es us x u (suc j) =
    let c : Term = carried nl es us 0 j in
    let a : suc j - 0 ≡ suc j = omega arith in
    let b : j ≡ j - 0 = omega arith in
    carried-high nl (Value x nl ∷ es) (u ∷ us) 0 (suc j) (omega arith) ∙ ap (entry nl 0 (Value x nl ∷ es) (u ∷ us)) a ∙ ap (entry nl 0 es us) b ∙ sym (carried-high nl es us 0 j (omega arith)) ∙
    sym (subst-index c) ∙ sym (subst-rename suc (instead u) c) ∙ sym (ap (subst (instead u)) ((carried-lifted nl es us).high 0 j))

pub instantiated_is : (nl : ℕ) (es : List EnvEntry) (us : List Term) (x : CellId) (u m : Term) → replace (carried nl (Value x nl ∷ es) (u ∷ us)) 0 m ≡ substitute u (replace (carried nl es us) 1 m)
instantiated_is nl es us x u m =
    carried-subst nl (Value x nl ∷ es) (u ∷ us) m ∙ ap (λ θ. subst θ m) (fun_ext (instantiated_at nl es us x u)) ∙ sym (subst-subst (carried nl es us 1) (instead u) m) ∙
    sym (ap (subst (instead u)) (replace-subst_by (carried nl es us) (carried-lifted nl es us) 1 m)) ∙ sym (substitute-subst u (replace (carried nl es us) 1 m))

pub instantiated_reads : (s a z : Contents) (c : Closure) (id : ℕ) (x : CellId) (fs : List EnvEntry) → Extends s a → fs ≡ Value x c.pending.nl ∷ env_list s.envs c.pending.env.0 →
    ((ts : List Term) → ReadAll a (c.body.0 ∷ values fs) ts → Unit {0} → (Ts : List Ty) → ReadTypes a [] Ts → Reads z id (replace (carried c.pending.nl fs (rest ts)) 0 (first ts))) →
    (m n u : Term) → Reads s c.body.0 m → Carries s c.pending (abs m) (abs n) → Reads s x.0 u → Reads z id (substitute u n)
instantiated_reads s a z c id x fs e q f m n u r k o =
    let nl = c.pending.nl in
    let es = env_list s.envs c.pending.env.0 in
    let ts = m ∷ u ∷ k.terms in
    let p : ReadAll a (c.body.0 ∷ values fs) ts = transport (λ l. ReadAll a (c.body.0 ∷ values l) ts) (sym q) (more (e.reads c.body.0 m r) (more (e.reads x.0 u o) (read_all_kept e k.read))) in
    let w : abs n ≡ abs (replace (carried nl es k.terms) 1 m) = k.is in
    let b : n ≡ replace (carried nl es k.terms) 1 m = cc in
    transport (Reads z id) (ap (λ l. replace (carried nl l (u ∷ k.terms)) 0 m) q ∙ instantiated_is nl es k.terms x u m ∙ ap (substitute u) (sym b)) (f ts p tt [] no_types)

pub instantiated_stands : (s : Contents) (x : Pending) (arg : CellId) (fs : List EnvEntry) → IsPending s x → fs ≡ Value arg x.nl ∷ env_list s.envs x.env.0 → (length fs ≡ x.ol + 1) × All (FitsEntry x.nl) fs
instantiated_stands s x a fs p q = (
  ap length q ∙ ap suc p.entries ∙ sym (add-one x.ol),
  transport (λ l. All (FitsEntry x.nl) l) (sym q) (All-cons (FitsEntry x.nl) (Value a x.nl) (env_list s.envs x.env.0) (omega arith) p.fits),
)

pub instantiated_avoids : (s z : Contents) (c : Closure) (arg : CellId) (fs : List EnvEntry) (y : ℕ) → IsSound s → Extends s z → c.body.0 < length s.cells → IsPending s c.pending → arg.0 < length s.cells →
    fs ≡ Value arg c.pending.nl ∷ env_list s.envs c.pending.env.0 → AvoidsAll s y (closure_parts s c) → Avoids s y arg.0 → AvoidsAll z y (c.body.0 ∷ values fs)
instantiated_avoids s z c arg fs y v e h p k q a b =
    let es = env_list s.envs c.pending.env.0 in
    let r = avoids_all_kept s z y (values es) e (values_below (length s.cells) es (v.envs c.pending.env.0 p.within)) (avoids_tail s y c.body.0 (values es) a) in
    transport (λ l. AvoidsAll z y (c.body.0 ∷ values l)) (sym q)
    (avoids_cons z y c.body.0 (arg.0 ∷ values es) (avoids_kept s z y c.body.0 e h (a c.body.0 (inl refl))) (avoids_cons z y arg.0 (values es) (avoids_kept s z y arg.0 e k b) r))
