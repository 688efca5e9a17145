-- What a record takes up to its body, and as a whole.
use Rattle.std.proofs.Common.{◌≡◌, ◌∙◌, inl, inr, ◌≤◌, ◌<◌, ℕ, suc, ◌+◌, ◌-◌, List, [], ◌∷◌, ◌++◌, length, map, reverse, Bool, true, false, Option, Some, None, ap, refl, sym, subst, arith}
use Rattle.std.specs.Prelude.{if◌then◌else◌, is_none, slice_get, option_map}
use Rattle.std.proofs.lemmas.Bool.{le-leb, lt-leb}
use Rattle.std.proofs.lemmas.List.{length-append, reverse-append, reverse-reverse}
use Rattle.indexmap.specs.IndexMap.{IndexMap}
use Rattle.lp_calculus.specs.Types.{Ty}
use Rattle.lp_calculus.specs.Term.{Term}
use Rattle.lp_term.specs.Nodes.{Nodes}
use Rattle.lp_code.specs.declared.record.RecordHead.{RecordHead}
use Rattle.lp_gen.specs.Steps.{Seen, Around, at_level}
use Rattle.lp_gen.specs.Registers.{Amount, both, started, Passes, own_types_take, variables_take, unset_take, unset, in_body, all_set}
use Rattle.lp_gen.specs.declared.emitter.Emitter.{Emitter}
use Rattle.lp_gen.specs.declared.environment.Environment.{Environment}
use Rattle.lp_gen.specs.declared.environment.Variable.{Variable}
use Rattle.lp_gen.specs.declared.fault.RecordRefusal.{RecordRefusal}
use Rattle.lp_gen.specs.declared.fault.RecordRefusal.TheVariants as refusal
use Rattle.lp_gen.specs.declared.plan.Origin.{Origin}
use Rattle.lp_gen.specs.declared.plan.Origin.TheVariants as origin
use Rattle.lp_gen.specs.declared.plan.Part.{Part}
use Rattle.lp_gen.specs.declared.tables.Tables.{Tables}
use Rattle.lp_gen.specs.inner.Alike.{SameSeen, AllSame, IsAlike}
use Rattle.lp_gen.specs.inner.Listing.{around_of, seen}
use Rattle.lp_gen.specs.inner.TermLaw.{as_set, AreSet}
use Rattle.lp_gen.specs.inner.Owned.{AreStarted}
use Rattle.lp_gen.specs.inner.Written.{CodeOwns}
use Rattle.lp_gen.specs.inner.Bodies.{IsShort, new_level}
use Rattle.lp_gen.specs.inner.Beginning.{OwnMade}
use Rattle.lp_gen.specs.inner.Entering.{unmade, clause_own, query_own, types_at, behind}
use Rattle.lp_gen.specs.inner.BodyCode.{started_at, AreAllSet}
use Rattle.lp_gen.specs.inner.Fitting.{IsRefused}
use Rattle.lp_gen.specs.inner.Using.{Uses, HasNoRoom, for_types, for_terms, for_bytes, for_misfits, Lacks, room, memory}
use Rattle.lp_gen.specs.inner.Recorded.{own_of, own_count, index_types, head_in, front_behind, HeadWritten, FrontWritten, types_taken, head_part, front_takes, front_around, StartsWell, start_around, own_around, body_around, record_takes, RecordTakes}
use Rattle.lp_gen.specs.inner.BodyUsing.{body_code_takes}
use Rattle.lp_gen.proofs.Alike.{same_joined, alike_itself, alike_then, unset_same, in_body_same, head_same, seen_itself}
use Rattle.lp_gen.proofs.OwnMadeBy.{started_on}
use Rattle.lp_gen.proofs.OwnPlaces.{own_are, index_types_count}
use Rattle.lp_gen.proofs.RecordRuns.{head_more, head_owns, own_all_set}
use Rattle.lp_gen.proofs.Using.{uses_nothing, uses_both, uses_same, lacks_first, lacks_then}

-- the own variables of a record are those of its types, by index

unset_joined : (Ts Us : List Ty) → unset (Ts ++ Us) ≡ unset Ts ++ unset Us
unset_joined [] Us = refl
unset_joined (T ∷ Ts) Us = ap (λ l. record { register = 0; of = T; is_set = false } ∷ l) (unset_joined Ts Us)

clause_alike : (r : ℕ) (Ts : List Ty) → AllSame (clause_own r Ts) (unset (reverse Ts))
clause_alike r [] = tt
clause_alike r (T ∷ Ts) =
    subst (AllSame (clause_own (r + 1) Ts ++ unmade r T ∷ [])) (sym (ap unset (reverse-append (T ∷ []) Ts) ∙ unset_joined (reverse Ts) (T ∷ [])))
    (same_joined (clause_own (r + 1) Ts) (unset (reverse Ts)) (unmade r T ∷ []) (unset (T ∷ [])) (clause_alike (r + 1) Ts) ((refl, refl), tt))

query_alike : (r : ℕ) (Ts : List Ty) → AllSame (query_own r Ts) (unset Ts)
query_alike r [] = tt
query_alike r (T ∷ Ts) = ((refl, refl), query_alike (r + 1) Ts)

own_alike : (b : Nodes) (o : Origin) (r : ℕ) → AllSame (own_of b o r) (unset (reverse (index_types b o)))
own_alike b (origin.Clause c) r = clause_alike r (types_at b c.now.vars.items)
own_alike b (origin.Query q gs) r =
    let Us = types_at b (map (λ v. v.1) q.now.vars.items) in subst (λ l. AllSame (query_own r Us) (unset l)) (sym (reverse-reverse Us)) (query_alike r Us)

own_length : (b : Nodes) (o : Origin) (r : ℕ) → length (own_of b o r) ≡ own_count o
own_length b o r = (own_are b o r).count ∙ index_types_count b o

-- with own variables behind them, those that a record starts with are set
pub started_behind : (a : Around) (vs : List Seen) → AreStarted a → AreStarted (behind a vs)
started_behind a vs s l v low e =
    let is = lt-leb a.base l low in
    s l v low (ap (λ t. if t then slice_get a.own (l - a.base) else a.captured l) is ∙ sym (ap (λ t. if t then slice_get (a.own ++ vs) (l - a.base) else a.captured l) is) ∙ e)

module _ (b : Nodes) (K : ℕ → List Ty → Ty) (env : Environment) (r : ℕ) (o : Origin) (well : StartsWell b env o) where
  abbrev front : Around
  front = front_around b env r o

  pub front_started : AreStarted front
  front_started = started_behind (around_of b env) (own_of b o r) well.0

  pub front_short : IsShort front
  front_short = let z = length-append (around_of b env).own (own_of b o r) in let y = own_length b o r in let l = well.1 in omega (arith, z, y, l)

  -- behind the head
  module _ (begun matched : Emitter) (begun_env matched_env : Environment) (p : Option RecordHead) (entered : around_of b begun_env ≡ front)
      (head : HeadWritten K begun matched (around_of b begun_env) (around_of b matched_env) p (head_in b o)) where
    begun_started : AreStarted (around_of b begun_env)
    begun_started = subst AreStarted (sym entered) front_started

    owned : CodeOwns (around_of b begun_env) (around_of b matched_env) (head_more K begun matched (around_of b begun_env) (around_of b matched_env) p (head_in b o) head).more
    owned = head_owns K begun matched (around_of b begun_env) (around_of b matched_env) p (head_in b o) head begun_started

    pub matched_started : AreStarted (around_of b matched_env)
    matched_started = started_on (around_of b begun_env) (around_of b matched_env) owned.same owned.stays begun_started

    pub matched_short : IsShort (around_of b matched_env)
    matched_short =
        let s : IsShort (around_of b begun_env) = subst IsShort (sym entered) front_short in
        let i = owned.same.base in
        let j = owned.same.count in
        omega (arith, i, j, s)

    pub matched_level : new_level (around_of b matched_env) ≡ new_level (around_of b env) + own_count o
    matched_level =
        let i = owned.same.base in
        let j = owned.same.count in
        let s = ap (λ (a : Around). a.base) entered in
        let m = ap (λ (a : Around). length a.own) entered in
        let z = length-append (around_of b env).own (own_of b o r) in
        let y = own_length b o r in
        omega (arith, i, j, s, m, z, y)

-- what is used up to NECK
pub front_used : (b : Nodes) (K : ℕ → List Ty → Ty) (e begun matched e' : Emitter) (env begun_env matched_env : Environment) (o : Origin) (p : Option RecordHead) →
    (around_of b begun_env ≡ front_around b env e.registers o) → HeadWritten K begun matched (around_of b begun_env) (around_of b matched_env) p (head_in b o) →
    around_of b matched_env ≡ front_behind K (around_of b begun_env) (head_in b o) → Uses e begun (variables_take (own_count o)) → Uses begun matched (head_part K (around_of b begun_env) (head_in b o)) →
    (IsShort (around_of b matched_env) → Uses matched e' (unset_take (around_of b matched_env).own)) → StartsWell b env o →
    Uses e e' (front_takes K (front_around b env e.registers o) (own_count o) (head_in b o))
front_used b K e begun matched e' env begun_env matched_env o p entered head is used more last well =
    let rest = subst (λ a. Uses matched e' (unset_take a.own)) is (last (matched_short b K env e.registers o well begun matched begun_env matched_env p entered head)) in
    subst (λ a. Uses e e' (front_takes K a (own_count o) (head_in b o))) entered (uses_both used (uses_both more rest))

-- it does not depend on the registers of variables

part_same : (K : ℕ → List Ty → Ty) (a c : Around) (t : Option Term) → IsAlike a c → (head_part K a t ≡ head_part K c t) × IsAlike (front_behind K a t) (front_behind K c t)
part_same K a c None x = (refl, x)
part_same K a c (Some t) x = head_same K a c t x

pub front_takes_same : (K : ℕ → List Ty → Ty) (a c : Around) (n : ℕ) (t : Option Term) → IsAlike a c → (front_takes K a n t ≡ front_takes K c n t) × IsAlike (front_behind K a t) (front_behind K c t)
front_takes_same K a c n t x =
    let y = part_same K a c t x in
    let u = unset_same (front_behind K a t).own (front_behind K c t).own y.1.own in
    ((λ i. both (variables_take n) (both (y.0 i) (u i))), y.1)

-- by what a record starts with

module _ {S : Type 0} (b : Nodes) (K : ℕ → List Ty → Ty) (env : Environment) (captured : IndexMap ℕ Variable S) (o : Origin) (none : env.own.items ≡ [])
    (starts : (l : ℕ) → (around_of b env).captured l ≡ started_at b captured l) where
  abbrev start : Around
  start = start_around b captured env.base

  none_own : (around_of b env).own ≡ []
  none_own = ap (map (seen b)) none

  pub starts_well : AreAllSet b captured → env.base + own_count o ≤ 4294967295 → StartsWell b env o
  starts_well set few = (by_level, (let z = ap length none_own in omega (arith, z, few)))
    where
      by_level : AreStarted (around_of b env)
      by_level l v low e = set l v (sym (starts l) ∙ sym (ap (λ t. if t then slice_get (around_of b env).own (l - env.base) else (around_of b env).captured l) (lt-leb env.base l low)) ∙ e)

  pub front_alike : (r : ℕ) → IsAlike (front_around b env r o) (own_around b start o)
  front_alike r = record {
    base = refl;
    own = subst (λ l. AllSame (l ++ own_of b o r) (unset (reverse (index_types b o)))) (sym none_own) (own_alike b o r);
    captured = λ l. subst (SameSeen ((around_of b env).captured l)) (starts l) (seen_itself ((around_of b env).captured l));
  }

  pub front_same : (r : ℕ) → front_takes K (front_around b env r o) (own_count o) (head_in b o) ≡ front_takes K (own_around b start o) (own_count o) (head_in b o)
  front_same r = (front_takes_same K (front_around b env r o) (own_around b start o) (own_count o) (head_in b o) (front_alike r)).0

  -- and the body has just these variables around it

  all_made : (vs ws : List Seen) → length vs ≡ length ws → ((i : ℕ) → option_map as_set (slice_get vs i) ≡ option_map as_set (slice_get ws i)) →
      ((i : ℕ) (v : Seen) → slice_get vs i ≡ Some v → v.is_set ≡ true) → AllSame vs (all_set ws)
  all_made [] [] n e s = tt
  all_made [] (w ∷ ws) n e s = absurd (omega (arith, n))
  all_made (v ∷ vs) [] n e s = absurd (omega (arith, n))
  all_made (v ∷ vs) (w ∷ ws) n e s = ((same_type (e 0), s 0 v refl), all_made vs ws (omega (arith, n)) (λ i. e (suc i)) (λ i. s (suc i)))
    where
      same_type : ◌≡◌ {A = Option Seen} (Some (as_set v)) (Some (as_set w)) → v.of ≡ w.of
      same_type q = ap (λ (u : Seen). u.of) (some_same (as_set v) (as_set w) q)
        where
          some_same : (x y : Seen) → ◌≡◌ {A = Option Seen} (Some x) (Some y) → x ≡ y
          some_same x y q = cc

  own_at : (a : Around) (i : ℕ) → at_level a (a.base + i) ≡ slice_get a.own i
  own_at a i =
      let z : a.base + i - a.base ≡ i = omega arith in
      ap (λ t. if t then slice_get a.own (a.base + i - a.base) else a.captured (a.base + i)) (le-leb a.base (a.base + i) (omega arith)) ∙ ap (slice_get a.own) z

  made_alike : (old new : Emitter) (a c : Around) → OwnMade old new a c → IsShort a → AreStarted a → IsAlike c (in_body a)
  made_alike old new a c x short start = record {
    base = x.some.base;
    own = all_made c.own a.own x.some.count same (λ i v e. x.set short i v e);
    captured = λ l. subst (SameSeen (c.captured l)) (x.some.captured l) (seen_itself (c.captured l));
  }
    where
      by_level : (l : ℕ) → option_map as_set (at_level c l) ≡ option_map as_set (at_level a l)
      by_level = (x.some.made.owns start).same.variables

      same : (i : ℕ) → option_map as_set (slice_get c.own i) ≡ option_map as_set (slice_get a.own i)
      same i =
          let base = x.some.base in
          let z : a.base + i ≡ c.base + i = omega (arith, base) in
          ap (option_map as_set) (sym (own_at c i)) ∙ sym (ap (λ l. option_map as_set (at_level c l)) z) ∙ by_level (a.base + i) ∙ ap (option_map as_set) (own_at a i)

  module _ (e e' : Emitter) (env' : Environment) (p : Option RecordHead) (w : FrontWritten b K e e' env env' o p) (well : StartsWell b env o) where
    matched_alike : IsAlike (around_of b w.matched_env) (front_behind K (own_around b start o) (head_in b o))
    matched_alike =
        let x = part_same K (front_around b env e.registers o) (own_around b start o) (head_in b o) (front_alike e.registers) in
        subst (λ a. IsAlike a (front_behind K (own_around b start o) (head_in b o))) (sym (w.behind ∙ ap (λ a. front_behind K a (head_in b o)) (w.entered.around b))) x.1

    short : IsShort (around_of b w.matched_env)
    short = matched_short b K env e.registers o well w.begun w.matched w.begun_env w.matched_env p (w.entered.around b) w.head

    started_there : AreStarted (around_of b w.matched_env)
    started_there = matched_started b K env e.registers o well w.begun w.matched w.begun_env w.matched_env p (w.entered.around b) w.head

    pub fronted_set : AreSet (around_of b env')
    fronted_set = own_all_set w.matched e' (around_of b w.matched_env) (around_of b env') w.made short started_there

    pub fronted_alike : IsAlike (around_of b env') (body_around K b start o)
    fronted_alike =
        alike_then (made_alike w.matched e' (around_of b w.matched_env) (around_of b env') w.made short started_there) (in_body_same (around_of b w.matched_env) (front_behind K (own_around b start o) (head_in b o)) matched_alike)

    pub fronted_level : new_level (around_of b env') ≡ env.base + own_count o
    fronted_level =
        let i = w.made.some.base in
        let j = w.made.some.count in
        let m = matched_level b K env e.registers o well w.begun w.matched w.begun_env w.matched_env p (w.entered.around b) w.head in
        let z = ap length none_own in
        omega (arith, i, j, m, z)

-- type variables

pub types_none : (p : Bool) (e : Emitter) (n : ℕ) → p ≡ false → Uses e e (types_taken p n)
types_none p e n q = subst (λ p. Uses e e (types_taken p n)) (sym q) (uses_nothing e)

pub types_used : (p : Bool) (e e' : Emitter) (n : ℕ) → p ≡ true → Uses e e' (own_types_take n) → Uses e e' (types_taken p n)
types_used p e e' n q u = subst (λ p. Uses e e' (types_taken p n)) (sym q) u

pub types_lacked : (p : Bool) (e : Emitter) (n : ℕ) (r : RecordRefusal) → p ≡ true → Lacks e (own_types_take n) r → Lacks e (types_taken p n) r
types_lacked p e n r q x = subst (λ p. Lacks e (types_taken p n) r) (sym q) x

-- an emitter at its limits

pub passes_of : (e : Emitter) (m : Amount) (t k : ℕ) (r : RecordRefusal) → e.types ≡ t → e.registers ≡ k → e.place ≡ 0 → Lacks e m r → IsRefused (Passes (both (started t k) m)) r
passes_of e m t k r types terms bytes (memory is) = subst (IsRefused (Passes (both (started t k) m))) (sym is) tt
passes_of e m t k r types terms bytes (room is p) = subst (IsRefused (Passes (both (started t k) m))) (sym is) (go p)
  where
    go : HasNoRoom e m → Passes (both (started t k) m)
    go (for_types q) = inl (omega (arith, q, types))
    go (for_terms q) = inr (inl (omega (arith, q, terms)))
    go (for_bytes q) = inr (inr (inl (omega (arith, q, bytes))))
    go (for_misfits q) = inr (inr (inr (omega (arith, q))))

pub none_passed : (e e' : Emitter) (m : Amount) (t k : ℕ) → e.types ≡ t → e.registers ≡ k → e.place ≡ 0 → Uses e e' m → e'.types ≤ 65535 → e'.registers ≤ 65535 → e'.place ≤ 4294967295 →
    Passes (both (started t k) m) → ⊥
none_passed e e' m t k types terms bytes u few_types few_terms few_bytes (inl q) = let x = u.types_are in absurd (omega (arith, q, x, types, few_types))
none_passed e e' m t k types terms bytes u few_types few_terms few_bytes (inr (inl q)) = let x = u.terms_are in absurd (omega (arith, q, x, terms, few_terms))
none_passed e e' m t k types terms bytes u few_types few_terms few_bytes (inr (inr (inl q))) = let x = u.bytes_are in absurd (omega (arith, q, x, bytes, few_bytes))
none_passed e e' m t k types terms bytes u few_types few_terms few_bytes (inr (inr (inr q))) = let x = u.fits in absurd (omega (arith, q, x))

-- the record as a whole

takes_refused : (t : Tables) (K : ℕ → List Ty → Ty) (p : Part) (s : Around) (k : ℕ) (a : Around) (e : Emitter) (r : RecordRefusal) → IsAlike a (body_around K t.bank.now s p.origin) →
    e.types ≡ (if is_none p.within then 0 else t.type_vars) → e.registers ≡ k → e.place ≡ 0 → Lacks e (record_takes t K p s a) r → IsRefused (RecordTakes Passes t K p s k) r
takes_refused t K p s k a e r alike types terms bytes x = go r (passes_of e (record_takes t K p s a) (if is_none p.within then 0 else t.type_vars) k r types terms bytes x)
  where
    go : (r : RecordRefusal) → IsRefused (Passes (both (started (if is_none p.within then 0 else t.type_vars) k) (record_takes t K p s a))) r → IsRefused (RecordTakes Passes t K p s k) r
    go refusal.Registers y = (a, alike, y)
    go refusal.Memory y = tt

-- it starts with more than it may
pub starts_refused : (t : Tables) (K : ℕ → List Ty → Ty) (p : Part) (s : Around) (k : ℕ) (r : RecordRefusal) → IsRefused (65535 < k) r → IsRefused (RecordTakes Passes t K p s k) r
starts_refused t K p s k refusal.Registers x = (body_around K t.bank.now s p.origin, alike_itself (body_around K t.bank.now s p.origin), inr (inl (omega (arith, x))))
starts_refused t K p s k refusal.Memory x = tt

-- where it begins
pub record RecordBegun {S : Type 0} (t : Tables) (p : Part) (captured : IndexMap ℕ Variable S) (k : ℕ) (e : Emitter) (env : Environment) : Type 0 where
  pub none : env.own.items ≡ []
  pub base : env.base ≡ p.base
  pub starts : (l : ℕ) → (around_of t.bank.now env).captured l ≡ started_at t.bank.now captured l
  pub types : e.types ≡ (if is_none p.within then 0 else t.type_vars)
  pub terms : e.registers ≡ k
  pub bytes : e.place ≡ 0
  pub set : AreAllSet t.bank.now captured
  pub few : p.base + own_count p.origin ≤ 4294967295

module _ {S : Type 0} (t : Tables) (K : ℕ → List Ty → Ty) (p : Part) (captured : IndexMap ℕ Variable S) (k : ℕ) (e : Emitter) (env : Environment) (x : RecordBegun t p captured k e env) where
  abbrev b : Nodes
  b = t.bank.now

  abbrev at : Around
  at = start_around b captured p.base

  pub begun_well : StartsWell b env p.origin
  begun_well = starts_well b K env captured p.origin x.none x.starts x.set (let i = x.base in let j = x.few in omega (arith, i, j))

  abbrev own : Around
  own = own_around b at p.origin

  abbrev front_part : Amount
  front_part = front_takes K own (own_count p.origin) (head_in b p.origin)

  front_is : (r : ℕ) → front_takes K (front_around b env r p.origin) (own_count p.origin) (head_in b p.origin) ≡ front_part
  front_is r =
      front_same b K env captured p.origin x.none x.starts r
      ∙ ap (λ n. front_takes K (own_around b (start_around b captured n) p.origin) (own_count p.origin) (head_in b p.origin)) x.base

  pub types_refused : (r : RecordRefusal) → Lacks e (types_taken (is_none p.within) t.type_vars) r → IsRefused (RecordTakes Passes t K p at k) r
  types_refused r y =
      let a = body_around K b at p.origin in
      takes_refused t K p at k a e r (alike_itself a) x.types x.terms x.bytes (lacks_first (both front_part (body_code_takes b t.type_vars t.assumptions.now K a p.steps.items)) y)

  module _ (e1 : Emitter) (used : Uses e e1 (types_taken (is_none p.within) t.type_vars)) where
    pub front_refused : (r : RecordRefusal) → Lacks e1 (front_takes K (front_around b env e1.registers p.origin) (own_count p.origin) (head_in b p.origin)) r → IsRefused (RecordTakes Passes t K p at k) r
    front_refused r y =
        let a = body_around K b at p.origin in
        takes_refused t K p at k a e r (alike_itself a) x.types x.terms x.bytes
        (lacks_then used (lacks_first (body_code_takes b t.type_vars t.assumptions.now K a p.steps.items) (subst (λ m. Lacks e1 m r) (front_is e1.registers) y)))

    module _ (e2 : Emitter) (env' : Environment) (h : Option RecordHead) (w : FrontWritten b K e1 e2 env env' p.origin h)
        (more : StartsWell b env p.origin → Uses e1 e2 (front_takes K (front_around b env e1.registers p.origin) (own_count p.origin) (head_in b p.origin))) where
      pub body_set : AreSet (around_of b env')
      body_set = fronted_set b K env captured p.origin x.none x.starts e1 e2 env' h w begun_well

      alike : IsAlike (around_of b env') (body_around K b at p.origin)
      alike = subst (λ n. IsAlike (around_of b env') (body_around K b (start_around b captured n) p.origin)) x.base (fronted_alike b K env captured p.origin x.none x.starts e1 e2 env' h w begun_well)

      front_there : Uses e1 e2 front_part
      front_there = uses_same (front_is e1.registers) (more begun_well)

      pub body_refused : (r : RecordRefusal) → (AreSet (around_of b env') → Lacks e2 (body_code_takes b t.type_vars t.assumptions.now K (around_of b env') p.steps.items) r) →
          IsRefused (RecordTakes Passes t K p at k) r
      body_refused r y = takes_refused t K p at k (around_of b env') e r alike x.types x.terms x.bytes (lacks_then used (lacks_then front_there (y body_set)))

      pub record_fits : (e3 : Emitter) → (AreSet (around_of b env') → Uses e2 e3 (body_code_takes b t.type_vars t.assumptions.now K (around_of b env') p.steps.items)) → e3.types ≤ 65535 →
          e3.registers ≤ 65535 → e3.place ≤ 4294967295 → RecordTakes (λ m. Passes m → ⊥) t K p at k
      record_fits e3 last few_types few_terms few_bytes = (
        around_of b env',
        alike,
        none_passed e e3 (record_takes t K p at (around_of b env')) (if is_none p.within then 0 else t.type_vars) k x.types x.terms x.bytes
            (uses_both used (uses_both front_there (last body_set))) few_types few_terms few_bytes,
      )
