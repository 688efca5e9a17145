-- Behind one binding, and behind several, all that was read before is read with the terms put in.
use Rattle.std.proofs.Common.{◌≡◌, ℕ, suc, ◌<◌, ◌≤◌, List, [], ◌∷◌, ◌++◌, length, ◌∙◌, refl, sym, ap, subst as transport, arith, Bool, true, false, Option, Some, None, nat_eq, if◌then◌else◌}
use Rattle.std.specs.Prelude.{◌&&◌}
use Rattle.std.specs.Map.{lookup}
use Rattle.std.proofs.lemmas.Bool.Decides.{nat_tests}
use Rattle.std.proofs.lemmas.List.{length-append}
use Rattle.indexmap.specs.IndexMap.{get}
use Rattle.lp_calculus.specs.Types.{Ty}
use Rattle.lp_calculus.specs.Term.{Term, Atom, atom, apply, constant, integer, text, eigen, logic, param}
use Rattle.lp_calculus.specs.Convert.{steps}
use Rattle.lp_calculus.specs.Fill.{Within, fill, close, at_variables, Binding, one, put, put_all, abstracted}
use Rattle.lp_calculus.specs.Instance.{instance_atom, instance_term}
use Rattle.lp_calculus.proofs.Commutations.{instance_fill}
use Rattle.lp_calculus.proofs.Fills.{fill-fill, within_fill, within_more, shift_closed}
use Rattle.lp_term.specs.Nodes.{Nodes, Extends, tree}
use Rattle.lp_term.specs.declared.node.TermId.{TermId}
use Rattle.lp_model.specs.Pair.{Closing, closed, put_type_in, put_types_in}
use Rattle.lp_model.specs.Patterns.{eigens, agreeing}
use Rattle.lp_model.specs.Types.{TypeBinding, one_type}
use Rattle.lp_calculus.proofs.Atoms.{put_all_append}
use Rattle.lp_model.specs.Look.{weak_step}
use Rattle.lp_pattern.specs.declared.bindings.Bindings.{Bindings}
use Rattle.lp_pattern.specs.Behind.{at_number, with_value, HasLevel}
use Rattle.lp_pattern.specs.Putting.{Known, IsFirm, IsPutBehind}
use Rattle.lp_pattern.specs.Scanning.{Binds}
use Rattle.lp_pattern.specs.Turning.{IsOpenReading, IsKeptBehind, IsBoundBehind}
use Rattle.lp_pattern.specs.Under.{ValueIs, IsReading}
use Rattle.lp_pattern.proofs.Passings.{steps_fill}
use Rattle.lp_pattern.proofs.PruneSteps.{Fresh, fresh_abstracted, fresh_pattern, fresh_closed, fresh_absent, levels_with, fresh_known, level_known}
use Rattle.lp_pattern.proofs.ReadingsBehind.{closed_valued, shut_valued, reading_valued, put_valued}
use Rattle.lp_pattern.proofs.TypesSolved.{lookup_past}
use Rattle.lp_pattern.proofs.Walking.{open_kept}

-- types put in before or behind a term for variables
abbrev typed : (ℕ → Ty) → Atom → Term
typed κ a = atom (instance_atom κ a)

module _ (κ : ℕ → Ty) (σ σ' : ℕ → ℕ → Term) (same : (y l : ℕ) → instance_term κ (σ y l) ≡ σ' y l) where
  type_before : (a : Atom) → fill (typed κ) (at_variables σ a) ≡ at_variables σ' (instance_atom κ a)
  type_before (constant j us) = refl
  type_before (integer z) = refl
  type_before (text s) = refl
  type_before (eigen k) = refl
  type_before (logic x l) = sym (instance_fill κ (σ x l)) ∙ same x l
  type_before (param k t) = refl

  type_close : (t : Term) → instance_term κ (close σ t) ≡ close σ' (instance_term κ t)
  type_close t =
      instance_fill κ (close σ t) ∙ fill-fill (typed κ) (at_variables σ) (λ a. at_variables σ' (instance_atom κ a)) type_before t ∙
      sym (ap (fill (at_variables σ')) (instance_fill κ t) ∙ fill-fill (at_variables σ') (typed κ) (λ a. at_variables σ' (instance_atom κ a)) (λ a. refl) t)

-- a term for the variables of which a test holds
abbrev tested : (ℕ → ℕ → Bool) → Term → ℕ → ℕ → Term
tested p v y l = if p y l then v else atom (logic y l)

type_choice : (κ : ℕ → Ty) (v : Term) (y l : ℕ) (b : Bool) → instance_term κ (if b then v else atom (logic y l)) ≡ (if b then instance_term κ v else atom (logic y l))
type_choice κ v y l true = refl
type_choice κ v y l false = refl

types_close : (p : ℕ → ℕ → Bool) (ts : List TypeBinding) (v t : Term) → put_types_in ts (close (tested p v) t) ≡ close (tested p (put_types_in ts v)) (put_types_in ts t)
types_close p [] v t = refl
types_close p (b ∷ ts) v t =
    ap (put_types_in ts) (type_close (one_type b) (tested p v) (tested p (put_type_in b v)) (λ y l. type_choice (one_type b) v y l (p y l)) t) ∙ types_close p ts (put_type_in b v) (put_type_in b t)

-- what one binding stands on: its value is read, and holds neither its variable nor a number that is not known behind it
pub record IsOneBinding (levels levels' : ℕ → ℕ) (next next' : ℕ) (c : Closing) (b d : Nodes) (s s' : Bindings) (x l : ℕ) (v : Term) (t : TermId) : Type 0 where
  pub grown : Extends b d
  pub entries : s'.terms.entries ≡ s.terms.entries ++ (x, t) ∷ []
  pub types : s'.types ≡ s.types
  pub there : t.0 < length d.terms
  pub is : closed c (tree d t.0) ≡ v
  pub absent : close (at_number x v) v ≡ v
  pub below : x < next
  pub level : l ≡ levels x
  pub older : (y : ℕ) → y < next → levels' y ≡ levels y
  pub more : next ≤ next'
  pub within : Within (Known levels' next') 0 v

known_put : (lv lv' : ℕ → ℕ) (n n' x l d : ℕ) (v : Term) → ((y : ℕ) → y < n → lv' y ≡ lv y) → n ≤ n' → Within (Known lv' n') d v → (a : Atom) → Known lv n a → Within (Known lv' n') d (at_variables (one (record { id = x; level = l; value = v })) a)
known_put lv lv' n n' x l d v o m w (constant j us) h = tt
known_put lv lv' n n' x l d v o m w (integer z) h = tt
known_put lv lv' n n' x l d v o m w (text b) h = tt
known_put lv lv' n n' x l d v o m w (eigen k) h = tt
known_put lv lv' n n' x l d v o m w (logic y k) h = go (nat_eq y x && nat_eq k l)
  where
    go : (b : Bool) → Within (Known lv' n') d (if b then v else atom (logic y k))
    go true = w
    go false = let z = h.0 in (omega (arith, z, m), h.1 ∙ sym (o y h.0))
known_put lv lv' n n' x l d v o m w (param k t) h = tt

module _ (levels levels' : ℕ → ℕ) (next next' : ℕ) (c : Closing) (b d : Nodes) (s s' : Bindings) (x l : ℕ) (v : Term) (t : TermId) (h : IsOneBinding levels levels' next next' c b d s s' x l v t) where
  abbrev made : Binding
  made = record { id = x; level = l; value = v }

  put_is : (n : ℕ) (u : Term) → Within (Known levels next) n u → close (at_number x v) u ≡ put made u
  put_is n u w = sym (put_valued x l v n u (within_more (Known levels next) (HasLevel x l) n n (level_known levels next x l h.level) (omega arith) u w))

  value_within : (n : ℕ) → Within (Known levels' next') n v
  value_within n = within_more (Known levels' next') (Known levels' next') 0 n (λ a k. k) (omega arith) v h.within

  value_firm : (ts : List TypeBinding) → IsFirm ts c → put_types_in ts v ≡ v
  value_firm ts f = ap (put_types_in ts) (sym h.is) ∙ f (tree d t.0) ∙ h.is

  pub once_put : IsPutBehind levels levels' next next' c (with_value x v c) s s' (made ∷ [])
  once_put = record {
    older = h.older;
    more = h.more;
    puts = λ n u w. closed_valued x v c u ∙ put_is n (closed c u) w;
    knows = λ n u w. within_fill (Known levels next) (Known levels' next') (at_variables (one made)) n (known_put levels levels' next next' x l n v h.older h.more (value_within n)) u w;
    reaches = λ u r j w e. steps_fill (at_variables (one made)) j u r e;
    firm = λ ts f u.
        ap (put_types_in ts) (closed_valued x v c u) ∙ types_close (λ y m. nat_eq y x) ts v (closed c u) ∙ (λ i. close (at_number x (value_firm ts f i)) (f u i)) ∙ sym (closed_valued x v c u);
    values = λ ts f u. sym (types_close (λ y m. nat_eq y x && nat_eq m l) ts v u ∙ (λ i. close (tested (λ y m. nat_eq y x && nat_eq m l) (value_firm ts f i)) (put_types_in ts u)));
    terms = let z = ap length h.entries ∙ length-append s.terms.entries ((x, t) ∷ []) in omega (arith, z);
    types = ap (λ m. length m.entries) h.types;
  }

  pub once_longer : length s.terms.entries < length s'.terms.entries
  once_longer = let z = ap length h.entries ∙ length-append s.terms.entries ((x, t) ∷ []) in omega (arith, z)

  once_unbound : ((y : ℕ) → next ≤ y → get nat_eq s.terms y ≡ None) → (y : ℕ) → next' ≤ y → get nat_eq s'.terms y ≡ None
  once_unbound f y i =
      let m = h.more in
      let e = h.below in
      let z : nat_eq y x ≡ false = grind (arith, nat_tests) in
      ap (lookup (nat_eq y)) h.entries ∙ lookup_past (nat_eq y) s.terms.entries ((x, t) ∷ []) (f y (omega (arith, i, m))) ∙ ap (λ a. if a then Some t else None) z

  pub once_read : IsOpenReading b s next c → IsOpenReading d s' next' (with_value x v c)
  once_read o = record {
    reading = reading_valued b d c x t v h.grown h.there h.is h.absent s s' h.entries h.types o.reading;
    shut = shut_valued x v c (shift_closed (Known levels' next') v h.within) o.shut;
    still = o.still;
    unbound = once_unbound o.unbound;
  }

-- no binding, and one after the other
pub put_none : (levels : ℕ → ℕ) (next : ℕ) (c : Closing) (s : Bindings) → IsPutBehind levels levels next next c c s s []
put_none levels next c s = record {
  older = λ x l. refl;
  more = omega arith;
  puts = λ n t w. refl;
  knows = λ n t w. w;
  reaches = λ t u j w e. e;
  firm = λ ts f. f;
  values = λ ts f t. refl;
  terms = omega arith;
  types = refl;
}

pub put_then : (lv lv' lv'' : ℕ → ℕ) (n n' n'' : ℕ) (c c' c'' : Closing) (s s' s'' : Bindings) (bs cs : List Binding) → IsPutBehind lv lv' n n' c c' s s' bs → IsPutBehind lv' lv'' n' n'' c' c'' s' s'' cs →
    IsPutBehind lv lv'' n n'' c c'' s s'' (bs ++ cs)
put_then lv lv' lv'' n n' n'' c c' c'' s s' s'' bs cs h k = record {
  older = λ x l. k.older x (let m = h.more in omega (arith, l, m)) ∙ h.older x l;
  more = let m = h.more in let j = k.more in omega (arith, m, j);
  puts = λ i t w.
      let e = h.puts i t w in
      k.puts i t (transport (Within (Known lv' n') i) (sym e) (h.knows i (closed c t) w)) ∙ ap (put_all cs) e ∙ sym (put_all_append bs cs (closed c t));
  knows = λ i t w. transport (Within (Known lv'' n'') i) (sym (put_all_append bs cs t)) (k.knows i (put_all bs t) (h.knows i t w));
  reaches = λ t u j w e.
      ap (steps weak_step j) (put_all_append bs cs t) ∙ k.reaches (put_all bs t) (put_all bs u) j (h.knows 0 t w) (h.reaches t u j w e) ∙ ap (λ x. Some x) (sym (put_all_append bs cs u));
  firm = λ ts f. k.firm ts (h.firm ts f);
  values = λ ts f t.
      put_all_append bs cs (put_types_in ts t) ∙ ap (put_all cs) (h.values ts f t) ∙ k.values ts (h.firm ts f) (put_all bs t) ∙ ap (put_types_in ts) (sym (put_all_append bs cs t));
  terms = let m = h.terms in let j = k.terms in omega (arith, m, j);
  types = k.types ∙ h.types;
}

pub bound_of : (levels levels' : ℕ → ℕ) (next next' : ℕ) (c c' : Closing) (d : Nodes) (s s' : Bindings) (bs : List Binding) → IsOpenReading d s' next' c' → IsPutBehind levels levels' next next' c c' s s' bs →
    length s.terms.entries < length s'.terms.entries → IsBoundBehind levels next c s d s' next' bs
bound_of levels levels' next next' c c' d s s' bs o h l = record {
  closing = c';
  reading = o;
  levels' = levels';
  older = h.older;
  more = h.more;
  puts = h.puts;
  knows = h.knows;
  reaches = h.reaches;
  firm = h.firm;
  values = h.values;
  terms = l;
  types = h.types;
}

-- nothing was bound
pub kept_behind : (b d : Nodes) (s : Bindings) (next : ℕ) (c : Closing) → Extends b d → IsOpenReading b s next c → IsKeptBehind next c s d s next
kept_behind b d s next c e o = record { reading = open_kept b d s next c e o; last = refl; terms = refl; types = refl }

-- the value is a new variable on eigenconstants
new_plain : (b : Nodes) (s : Bindings) (c : Closing) (next : ℕ) (o : Option TermId) → IsReading b s c → get nat_eq s.terms next ≡ o → o ≡ None → (m : ℕ) → c.terms next m ≡ atom (logic next m)
new_plain b s c next None h i e m = transport (ValueIs b c next) i (h.terms next) m
new_plain b s c next (Some t) h i e m = absurd (cc)

older_with : (lv : ℕ → ℕ) (n l x : ℕ) → x < n → levels_with lv n l x ≡ lv x
older_with lv n l x i = let z : nat_eq x n ≡ false = grind (arith, nat_tests) in ap (λ b. if b then l else lv x) z

pub fresh_once : (levels : ℕ → ℕ) (next m : ℕ) (c : Closing) (b d : Nodes) (s s' : Bindings) (x l : ℕ) (v : Term) → Extends b d → IsOpenReading b s next c → (w : Binds d s s' x v) → s'.types ≡ s.types → Within (Fresh next m) 0 v → x < next → l ≡ levels x →
    IsOneBinding levels (levels_with levels next m) next (suc next) c b d s s' x l v w.0
fresh_once levels next m c b d s s' x l v e o w t f i q = record {
  grown = e;
  entries = w.1;
  types = t;
  there = w.2;
  is = ap (closed c) w.3 ∙ fresh_closed c next m (new_plain b s c next (get nat_eq s.terms next) o.reading refl (o.unbound next (omega arith))) v f;
  absent = fresh_absent x next m i v v f;
  below = i;
  level = q;
  older = older_with levels next m;
  more = omega arith;
  within = within_more (Fresh next m) (Known (levels_with levels next m) (suc next)) 0 0 (fresh_known levels next m) (omega arith) v f;
}

-- rule 4
pub join_behind : (levels : ℕ → ℕ) (next next' : ℕ) (c : Closing) (b d : Nodes) (s s' : Bindings) (x l : ℕ) (ks js : List ℕ) → Extends b d → IsOpenReading b s next c → next' ≡ suc next →
    Binds d s s' x (abstracted ks (apply (atom (logic next l)) (eigens (agreeing ks js)))) → s'.types ≡ s.types → x < next → l ≡ levels x →
    IsBoundBehind levels next c s d s' next' (record { id = x; level = l; value = abstracted ks (apply (atom (logic next l)) (eigens (agreeing ks js))) } ∷ [])
join_behind levels next next' c b d s s' x l ks js e o n w t i q =
    let v : Term = abstracted ks (apply (atom (logic next l)) (eigens (agreeing ks js))) in
    let f = fresh_abstracted next l ks (apply (atom (logic next l)) (eigens (agreeing ks js))) (fresh_pattern next l (agreeing ks js) (atom (logic next l)) (refl, refl)) in
    let h = fresh_once levels next l c b d s s' x l v e o w t f i q in
    transport (λ m. IsBoundBehind levels next c s d s' m (record { id = x; level = l; value = v } ∷ [])) (sym n)
    (bound_of levels (levels_with levels next l) next (suc next) c (with_value x v c) d s s' (record { id = x; level = l; value = v } ∷ [])
    (once_read levels (levels_with levels next l) next (suc next) c b d s s' x l v w.0 h o) (once_put levels (levels_with levels next l) next (suc next) c b d s s' x l v w.0 h)
    (once_longer levels (levels_with levels next l) next (suc next) c b d s s' x l v w.0 h))
