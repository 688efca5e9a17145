-- What is looked for in clauses, place by place.
use Rattle.std.proofs.Common.{◌≡◌, ◌∙◌, ◌≤◌, ◌<◌, ◌≢◌, ℕ, zero, suc, ◌+◌, ◌*◌, List, [], ◌∷◌, ◌++◌, length, map, Bor, Vec, Global, Bool, true, false, ap, refl, sym, subst, arith}
use Rattle.std.specs.Prelude.{nat_lt, sum_by, if◌then◌else◌}
use Rattle.std.proofs.lemmas.Bool.{ltb-true, ltb-false, lt-ltb}
use Rattle.std.proofs.lemmas.List.Sums.{sum_by-cons}
use Rattle.lp_base.specs.declared.limit.Limit.TheVariants as limit
use Rattle.lp_calculus.specs.Term.{Term, Atom, index, atom, app, abs, apply}
use Rattle.lp_term.specs.Nodes.{Nodes, tree, type_tree, node_tree}
use Rattle.lp_term.specs.Shapes.{term_shape}
use Rattle.lp_term.specs.Walk.{size}
use Rattle.lp_term.specs.declared.node.TermId.{TermId}
use Rattle.lp_term.specs.declared.node.TypeId.{TypeId}
use Rattle.lp_term.specs.declared.node.TermNode.{TermNode}
use Rattle.lp_term.specs.declared.node.TermNode.TheVariants as node
use Rattle.lp_term.proofs.Walks.{map_map}
use Rattle.lp_model.specs.declared.clause.Goal as code
use Rattle.lp_model.specs.declared.clause.Goal.{Goal}
use Rattle.lp_model.specs.declared.clause.Clause.{Clause}
use Rattle.lp_model.specs.Flat.{Goals, no_goals, goals, Clauses, Clause as FlatClause, clause, clauses, no_clauses}
use Rattle.lp_model.specs.Flattened.{goal_of, goals_of, clause_of, clauses_of}
use Rattle.lp_gen.specs.declared.fault.GenRefusal.{GenRefusal}
use Rattle.lp_gen.specs.declared.fault.GenRefusal.TheVariants as refusal
use Rattle.lp_gen.specs.declared.limits.Look.{Look}
use Rattle.lp_gen.specs.declared.limits.Look.TheVariants as look
use Rattle.lp_gen.specs.declared.limits.Source.{Source}
use Rattle.lp_gen.specs.declared.limits.Source.TheVariants as on
use Rattle.lp_gen.specs.Registers.{past}
use Rattle.lp_gen.specs.Limits.{term_counts, goal_counts, goals_counts, clauses_counts, in_arguments, in_nesting, of_nesting}
use Rattle.lp_gen.specs.inner.Limiting.{in_records, nodes_of, counting_of, strict, IsOver, times, TermsOver, GoalsOver, source_counts, counts_left, IsMet, source_task, source_work}
use Rattle.lp_gen.proofs.Works.{one_more, two_more, application_weighs, some_args}
use Rattle.lp_gen.proofs.Tops.{atom_is, cut_is, either_is, some_is, all_is, assume_is, not_is, clause_is}

-- what is past a number

past_by : (m n : ℕ) (t : Bool) → nat_lt m n ≡ t → past m n ≡ (if t then 1 else 0)
past_by m n t e = ap (λ t. if t then 1 else 0) e

pub past_over : (m n : ℕ) → m < n → past m n ≡ 1
past_over m n l = past_by m n true (lt-ltb m n l)

pub past_within : (m n : ℕ) → n ≤ m → past m n ≡ 0
past_within m n l = go (nat_lt m n) refl
  where
    go : (t : Bool) → nat_lt m n ≡ t → past m n ≡ 0
    go true e = absurd (omega (arith, ltb-true m n e, l))
    go false e = past_by m n false e

pub within_past : (m n : ℕ) → past m n ≡ 0 → n ≤ m
within_past m n e = go (nat_lt m n) refl
  where
    go : (t : Bool) → nat_lt m n ≡ t → n ≤ m
    go true f = absurd (omega (arith, e, past_by m n true f))
    go false f = ltb-false m n f

-- a refusal for a part is one for the whole

pub over_part : (k : Look) (r c d : ℕ) (e : GenRefusal) → c ≤ d → IsOver k r c e → IsOver k r d e
over_part k r c d (refusal.Limit l) le p = (p.0, (let q = p.1 in omega (arith, q, le)))
over_part k r c d refusal.Memory le p = tt

pub over_rest : (k : Look) (r r' c d n : ℕ) (e : GenRefusal) → r ≡ r' + c → c + d ≤ n → IsOver k r' d e → IsOver k r n e
over_rest k r r' c d n (refusal.Limit l) s le p = (p.0, (let q = p.1 in omega (arith, q, s, le)))
over_rest k r r' c d n refusal.Memory s le p = tt

-- terms

none_in_term : (n : ℕ) (t : Term) → 0 ≡ term_counts in_records n t
none_in_term n (index i) = refl
none_in_term n (atom a) = refl
none_in_term n (abs b) = let z = none_in_term n b in omega (arith, z)
none_in_term n (app t u) = let y = none_in_term n t in let z = none_in_term n u in omega (arith, y, z)

pub of_term_is : (k : Look) (n : ℕ) (t : Term) → (counting_of k).of_term n t ≡ term_counts (nodes_of k) n t
of_term_is look.Strings n t = refl
of_term_is look.Arguments n t = refl
of_term_is look.Nesting n t = refl
of_term_is look.Records n t = none_in_term n t

steady : (k : Look) (n : ℕ) → (nodes_of k).to_part ((nodes_of k).to_head n) ≡ (nodes_of k).to_part n
steady look.Strings n = refl
steady look.Arguments n = refl
steady look.Nesting n = refl
steady look.Records n = refl

steady_times : (k : Look) (j n : ℕ) → (nodes_of k).to_part (times (nodes_of k).to_head j n) ≡ (nodes_of k).to_part n
steady_times k zero n = refl
steady_times k (suc j) n = steady k (times (nodes_of k).to_head j n) ∙ steady_times k j n

applied_counts : (b : Nodes) (k : Look) (n : ℕ) (h : Term) (ts : List TermId) → term_counts (nodes_of k) n (apply h (map (tree b) (map (λ t. t.0) ts))) ≡
    term_counts (nodes_of k) (times (nodes_of k).to_head (length ts) n) h + sum_by (λ t. term_counts (nodes_of k) ((nodes_of k).to_part n) (tree b t.0)) ts
applied_counts b k n h [] = omega arith
applied_counts b k n h (t ∷ ts) =
    let z = applied_counts b k n (app h (tree b t.0)) ts in
    let c = sum_by-cons (λ (t : TermId). term_counts (nodes_of k) ((nodes_of k).to_part n) (tree b t.0)) t ts in
    let s = ap (λ m. term_counts (nodes_of k) m (tree b t.0)) (steady_times k (length ts) n) in
    omega (arith, z, c, s)

terms_are : (b : Nodes) (k : Look) (n : ℕ) (ts : List TermId) →
    sum_by (λ t. (counting_of k).of_term n (tree b t.0)) ts ≡ sum_by (λ t. term_counts (nodes_of k) n (tree b t.0)) ts
terms_are b k n [] = refl
terms_are b k n (t ∷ ts) =
    let z = terms_are b k n ts in
    let c = sum_by-cons (λ (t : TermId). (counting_of k).of_term n (tree b t.0)) t ts in
    let d = sum_by-cons (λ (t : TermId). term_counts (nodes_of k) n (tree b t.0)) t ts in
    let s = of_term_is k n (tree b t.0) in
    omega (arith, z, c, d, s)

-- the head of too many arguments is among them, and so is something of each term and list of goals that stands too deep

pub wide_term : (n : ℕ) (t : Term) → 255 < n → 0 < term_counts in_arguments n t
wide_term n (index i) l = let p = past_over 255 n l in omega (arith, p)
wide_term n (atom a) l = let p = past_over 255 n l in omega (arith, p)
wide_term n (abs b) l = let p = past_over 255 n l in omega (arith, p)
wide_term n (app t u) l = let z = wide_term (suc n) t (omega (arith, l)) in omega (arith, z)

pub deep_term : (n : ℕ) (t : Term) → 2000 < n → 0 < term_counts in_nesting n t
deep_term n (index i) l = let p = past_over 2000 n l in omega (arith, p)
deep_term n (atom a) l = let p = past_over 2000 n l in omega (arith, p)
deep_term n (abs b) l = let p = past_over 2000 n l in omega (arith, p)
deep_term n (app t u) l = let z = deep_term n t l in omega (arith, z)

pub deep_goals : (n : ℕ) (gs : Goals) → 2000 < n → 0 < goals_counts of_nesting n gs
deep_goals n no_goals l = let p = past_over 2000 n l in omega (arith, p)
deep_goals n (goals g gs) l = let z = deep_goals n gs l in omega (arith, z)

-- the numbers on the way

pub times_suc : (j n : ℕ) → times suc j n ≡ n + j
times_suc zero n = omega arith
times_suc (suc j) n = let z = times_suc j n in omega (arith, z)

times_same : (j n : ℕ) → times (λ n. n) j n ≡ n
times_same zero n = refl
times_same (suc j) n = times_same j n

pub strict_less : (k : Look) (r r' : ℕ) → r' ≤ r → strict k r ≡ 0 → strict k r' ≡ 0
strict_less look.Strings r r' l e = omega (arith, l, e)
strict_less look.Arguments r r' l e = omega (arith, l, e)
strict_less look.Nesting r r' l e = omega (arith, l, e)
strict_less look.Records r r' l e = refl

-- of heads, where arguments are not looked for, and where they are
pub same_head : (k : Look) (j n : ℕ) → (k ≡ look.Arguments → ⊥) → n ≡ times (nodes_of k).to_head j n
same_head look.Strings j n apart = sym (times_same j n)
same_head look.Arguments j n apart = absurd (apart refl)
same_head look.Nesting j n apart = sym (times_same j n)
same_head look.Records j n apart = sym (times_same j n)

pub strings_apart : look.Strings ≡ look.Arguments → ⊥
strings_apart e = cc

pub nesting_apart : look.Nesting ≡ look.Arguments → ⊥
nesting_apart e = cc

pub records_apart : look.Records ≡ look.Arguments → ⊥
records_apart e = cc

pub more_arguments : (k : Look) (j n m : ℕ) → k ≡ look.Arguments → m ≡ n + j → m ≡ times (nodes_of k).to_head j n
more_arguments k j n m e same = same ∙ sym (times_suc j n) ∙ ap (λ (k : Look). times (nodes_of k).to_head j n) (sym e)

pub head_wide : (k : Look) (r j n : ℕ) → k ≡ look.Arguments → strict k r ≡ 0 → 255 < n + j → TermsOver k r (times (nodes_of k).to_head j n) (refusal.Limit limit.Arguments)
head_wide k r j n e s l = subst (λ (k : Look). strict k r ≡ 0 → TermsOver k r (times (nodes_of k).to_head j n) (refusal.Limit limit.Arguments)) (sym e) wide s
  where
    wide : r ≡ 0 → TermsOver look.Arguments r (times suc j n) (refusal.Limit limit.Arguments)
    wide z t = let w = times_suc j n in let some = wide_term (times suc j n) t (omega (arith, w, l)) in (refl, omega (arith, some, z))

pub part_deep : (k : Look) (r n : ℕ) → k ≡ look.Nesting → strict k r ≡ 0 → 2000 ≤ n → TermsOver k r ((nodes_of k).to_part n) (refusal.Limit limit.Nesting)
part_deep k r n e s l = subst (λ (k : Look). strict k r ≡ 0 → TermsOver k r ((nodes_of k).to_part n) (refusal.Limit limit.Nesting)) (sym e) deep s
  where
    deep : r ≡ 0 → TermsOver look.Nesting r (suc n) (refusal.Limit limit.Nesting)
    deep z t = let some = deep_term (suc n) t (omega (arith, l)) in (refl, omega (arith, some, z))

pub block_deep : (k : Look) (r n : ℕ) → k ≡ look.Nesting → strict k r ≡ 0 → 2000 ≤ n → GoalsOver k r ((counting_of k).to_block n) (refusal.Limit limit.Nesting)
block_deep k r n e s l = subst (λ (k : Look). strict k r ≡ 0 → GoalsOver k r ((counting_of k).to_block n) (refusal.Limit limit.Nesting)) (sym e) deep s
  where
    deep : r ≡ 0 → GoalsOver look.Nesting r (suc n) (refusal.Limit limit.Nesting)
    deep z gs = let some = deep_goals (suc n) gs (omega (arith, l)) in (refl, omega (arith, some, z))

pub mapped_twice : (b : Nodes) (ids : List TypeId) → length (map (type_tree b) (map (λ t. t.0) ids)) ≡ length ids
mapped_twice b [] = refl
mapped_twice b (t ∷ ts) = ap suc (mapped_twice b ts)

-- a refusal of a term
abbrev pub Over : Nodes → Look → (room number : ℕ) → TermId → GenRefusal → Type 0
Over b k r n t e = IsOver k r ((counting_of k).of_term n (tree b t.0)) e

module _ (b : Nodes) (k : Look) (n : ℕ) (term : TermId) where
  -- what a term has by its top
  application_counts : (head : TermId) (args : Bor (List TermId)) → apply (tree b head.0) (map (tree b) (map (λ t. t.0) args.now)) ≡ tree b term.0 →
      (counting_of k).of_term n (tree b term.0) ≡ (counting_of k).of_term (times (nodes_of k).to_head (length args.now) n) (tree b head.0)
      + sum_by (λ t. (counting_of k).of_term ((nodes_of k).to_part n) (tree b t.0)) args.now
  application_counts head args t =
      let m = times (nodes_of k).to_head (length args.now) n in
      let x = of_term_is k n (tree b term.0) in
      let s = ap (term_counts (nodes_of k) n) t in
      let z = applied_counts b k n (tree b head.0) args.now in
      let y = of_term_is k m (tree b head.0) in
      let w = terms_are b k ((nodes_of k).to_part n) args.now in
      omega (arith, x, s, z, y, w)

  pub application_met : (r below front : ℕ) (old mid new : List Source) (head : TermId) (args : Bor (List TermId)) → below ≡ (nodes_of k).to_part n →
      front ≡ times (nodes_of k).to_head (length args.now) n → mid ≡ old ++ on.Terms args below ∷ [] → new ≡ mid ++ on.Term head front ∷ [] →
      apply (tree b head.0) (map (tree b) (map (λ t. t.0) args.now)) ≡ tree b term.0 → IsMet b k r r old new ((counting_of k).of_term n (tree b term.0))
  application_met r below front old mid new head args e f m w t =
      let all = two_more (source_counts b (counting_of k)) old mid new (on.Terms args below) (on.Term head front) m w in
      let x = ap (λ q. sum_by (λ t. (counting_of k).of_term q (tree b t.0)) args.now) e in
      let y = ap (λ q. (counting_of k).of_term q (tree b head.0)) f in
      let z = application_counts head args t in
      omega (arith, all, x, y, z)

  pub application_less : (below front : ℕ) (old mid new : List Source) (head : TermId) (args : Bor (List TermId)) → mid ≡ old ++ on.Terms args below ∷ [] → new ≡ mid ++ on.Term head front ∷ [] →
      apply (tree b head.0) (map (tree b) (map (λ t. t.0) args.now)) ≡ tree b term.0 → map (λ t. t.0) args.now ≢ [] → source_work b new + 1 ≤ source_work b old + 4 * size (tree b term.0)
  application_less below front old mid new head args m e t some =
      let w = two_more (source_task b) old mid new (on.Terms args below) (on.Term head front) m e in
      let a = application_weighs b (tree b head.0) (tree b term.0) args.now (ap (apply (tree b head.0)) (sym (map_map (tree b) (λ t. t.0) args.now)) ∙ t) (some_args (λ t. t.0) args.now some) in
      omega (arith, w, a)

  pub head_over : (r : ℕ) (head : TermId) (args : Bor (List TermId)) (e : GenRefusal) → apply (tree b head.0) (map (tree b) (map (λ t. t.0) args.now)) ≡ tree b term.0 →
      ((t : Term) → IsOver k r ((counting_of k).of_term (times (nodes_of k).to_head (length args.now) n) t) e) → IsOver k r ((counting_of k).of_term n (tree b term.0)) e
  head_over r head args e t p =
      let z = application_counts head args t in
      over_part k r ((counting_of k).of_term (times (nodes_of k).to_head (length args.now) n) (tree b head.0)) ((counting_of k).of_term n (tree b term.0)) e (omega (arith, z)) (p (tree b head.0))

  pub part_over : (r : ℕ) (head : TermId) (args : Bor (List TermId)) (e : GenRefusal) → apply (tree b head.0) (map (tree b) (map (λ t. t.0) args.now)) ≡ tree b term.0 →
      map (λ t. t.0) args.now ≢ [] →
      ((t : Term) → IsOver k r ((counting_of k).of_term ((nodes_of k).to_part n) t) e) → IsOver k r ((counting_of k).of_term n (tree b term.0)) e
  part_over r head args e t some p = go args.now refl
    where
      go : (ts : List TermId) → args.now ≡ ts → IsOver k r ((counting_of k).of_term n (tree b term.0)) e
      go [] is = absurd (some (ap (map (λ t. t.0)) is))
      go (x ∷ xs) is =
          let f : TermId → ℕ = λ t. (counting_of k).of_term ((nodes_of k).to_part n) (tree b t.0) in
          let z = application_counts head args t in
          let y = ap (sum_by f) is in
          let c = sum_by-cons f x xs in
          over_part k r (f x) ((counting_of k).of_term n (tree b term.0)) e (omega (arith, z, y, c)) (p (tree b x.0))

  abstraction_counts : (body : TermId) → abs (tree b body.0) ≡ tree b term.0 →
      (counting_of k).of_term n (tree b term.0) ≡ (nodes_of k).of_node n + (counting_of k).of_term ((nodes_of k).to_part n) (tree b body.0)
  abstraction_counts body t =
      let x = of_term_is k n (tree b term.0) in
      let s = ap (term_counts (nodes_of k) n) t in
      let y = of_term_is k ((nodes_of k).to_part n) (tree b body.0) in
      omega (arith, x, s, y)

  pub abstraction_met : (r r' below : ℕ) (old new : List Source) (body : TermId) → r ≡ r' + (nodes_of k).of_node n → below ≡ (nodes_of k).to_part n → new ≡ old ++ on.Term body below ∷ [] →
      abs (tree b body.0) ≡ tree b term.0 → IsMet b k r r' old new ((counting_of k).of_term n (tree b term.0))
  abstraction_met r r' below old new body s e w t =
      let all = one_more (source_counts b (counting_of k)) old new (on.Term body below) w in
      let x = ap (λ q. (counting_of k).of_term q (tree b body.0)) e in
      let z = abstraction_counts body t in
      omega (arith, s, all, x, z)

  pub abstraction_over : (r : ℕ) (body : TermId) (e : GenRefusal) → abs (tree b body.0) ≡ tree b term.0 → IsOver k r ((nodes_of k).of_node n) e →
      IsOver k r ((counting_of k).of_term n (tree b term.0)) e
  abstraction_over r body e t p =
      let z = abstraction_counts body t in
      over_part k r ((nodes_of k).of_node n) ((counting_of k).of_term n (tree b term.0)) e (omega (arith, z)) p

  pub body_over : (r r' : ℕ) (body : TermId) (e : GenRefusal) → abs (tree b body.0) ≡ tree b term.0 → r ≡ r' + (nodes_of k).of_node n →
      ((t : Term) → IsOver k r' ((counting_of k).of_term ((nodes_of k).to_part n) t) e) → IsOver k r ((counting_of k).of_term n (tree b term.0)) e
  body_over r r' body e t s p =
      let z = abstraction_counts body t in
      over_rest k r r' ((nodes_of k).of_node n) ((counting_of k).of_term ((nodes_of k).to_part n) (tree b body.0)) ((counting_of k).of_term n (tree b term.0)) e s (omega (arith, z)) (p (tree b body.0))

  -- a term without parts

  leaf_counts : (a : Atom) → atom a ≡ tree b term.0 → (counting_of k).of_term n (tree b term.0) ≡ (nodes_of k).of_node n + (nodes_of k).of_atom a
  leaf_counts a t = of_term_is k n (tree b term.0) ∙ sym (ap (term_counts (nodes_of k) n) t)

  pub leaf_met : (r r' r'' c : ℕ) (ss : List Source) (a : Atom) → atom a ≡ tree b term.0 → r ≡ r' + (nodes_of k).of_node n → r' ≡ r'' + c →
      c ≡ (nodes_of k).of_atom a → IsMet b k r r'' ss ss ((counting_of k).of_term n (tree b term.0))
  leaf_met r r' r'' c ss a t s s' e = let z = leaf_counts a t in omega (arith, z, s, s', e)

  pub leaf_over : (r : ℕ) (a : Atom) (e : GenRefusal) → atom a ≡ tree b term.0 → IsOver k r ((nodes_of k).of_node n) e →
      IsOver k r ((counting_of k).of_term n (tree b term.0)) e
  leaf_over r a e t p =
      let z = leaf_counts a t in
      over_part k r ((nodes_of k).of_node n) ((counting_of k).of_term n (tree b term.0)) e (omega (arith, z)) p

  pub atom_over : (r r' c : ℕ) (a : Atom) (e : GenRefusal) → atom a ≡ tree b term.0 → r ≡ r' + (nodes_of k).of_node n → c ≡ (nodes_of k).of_atom a →
      IsOver k r' c e → IsOver k r ((counting_of k).of_term n (tree b term.0)) e
  atom_over r r' c a e t s f p =
      let z = leaf_counts a t in
      over_rest k r r' ((nodes_of k).of_node n) c ((counting_of k).of_term n (tree b term.0)) e s (omega (arith, z, f)) p

  other_node : (v : TermNode) → ((s : Bor (List ℕ)) → v ≡ node.Text s → ⊥) → ((c : ℕ) (ids : Bor (List TypeId)) → v ≡ node.Const c ids → ⊥) → ((i : TermId) → v ≡ node.Abs i → ⊥) →
      ((f : TermId) (ids : Bor (List TermId)) → v ≡ node.App f ids → ⊥) → term_counts (nodes_of k) n (node_tree b (term_shape v)) ≡ (nodes_of k).of_node n
  other_node v x c y z = go v k x c y z
    where
      go : (v : TermNode) (k : Look) → ((s : Bor (List ℕ)) → v ≡ node.Text s → ⊥) → ((c : ℕ) (ids : Bor (List TypeId)) → v ≡ node.Const c ids → ⊥) → ((i : TermId) → v ≡ node.Abs i → ⊥) →
          ((f : TermId) (ids : Bor (List TermId)) → v ≡ node.App f ids → ⊥) → term_counts (nodes_of k) n (node_tree b (term_shape v)) ≡ (nodes_of k).of_node n
      go (node.Index i) k x c y z = refl
      go (node.Const q ids) k x c y z = absurd (c q ids refl)
      go (node.Int i) look.Strings x c y z = refl
      go (node.Int i) look.Arguments x c y z = omega arith
      go (node.Int i) look.Nesting x c y z = omega arith
      go (node.Int i) look.Records x c y z = refl
      go (node.Text s) k x c y z = absurd (x s refl)
      go (node.Eigen j) look.Strings x c y z = refl
      go (node.Eigen j) look.Arguments x c y z = omega arith
      go (node.Eigen j) look.Nesting x c y z = omega arith
      go (node.Eigen j) look.Records x c y z = refl
      go (node.Logic i l) look.Strings x c y z = refl
      go (node.Logic i l) look.Arguments x c y z = omega arith
      go (node.Logic i l) look.Nesting x c y z = omega arith
      go (node.Logic i l) look.Records x c y z = refl
      go (node.Param j t) look.Strings x c y z = refl
      go (node.Param j t) look.Arguments x c y z = omega arith
      go (node.Param j t) look.Nesting x c y z = omega arith
      go (node.Param j t) look.Records x c y z = refl
      go (node.Abs body) k x c y z = absurd (y body refl)
      go (node.App f ids) k x c y z = absurd (z f ids refl)

  other_counts : (v : TermNode) → ((s : Bor (List ℕ)) → v ≡ node.Text s → ⊥) → ((c : ℕ) (ids : Bor (List TypeId)) → v ≡ node.Const c ids → ⊥) → ((i : TermId) → v ≡ node.Abs i → ⊥) →
      ((f : TermId) (ids : Bor (List TermId)) → v ≡ node.App f ids → ⊥) → node_tree b (term_shape v) ≡ tree b term.0 → (counting_of k).of_term n (tree b term.0) ≡ (nodes_of k).of_node n
  other_counts v x c y z t = of_term_is k n (tree b term.0) ∙ sym (ap (term_counts (nodes_of k) n) t) ∙ other_node v x c y z

  pub other_met : (r r' : ℕ) (ss : List Source) (v : TermNode) → ((s : Bor (List ℕ)) → v ≡ node.Text s → ⊥) → ((c : ℕ) (ids : Bor (List TypeId)) → v ≡ node.Const c ids → ⊥) →
      ((i : TermId) → v ≡ node.Abs i → ⊥) → ((f : TermId) (ids : Bor (List TermId)) → v ≡ node.App f ids → ⊥) → node_tree b (term_shape v) ≡ tree b term.0 →
      r ≡ r' + (nodes_of k).of_node n → IsMet b k r r' ss ss ((counting_of k).of_term n (tree b term.0))
  other_met r r' ss v x c y z t s = let w = other_counts v x c y z t in omega (arith, w, s)

  pub other_over : (r : ℕ) (e : GenRefusal) (v : TermNode) → ((s : Bor (List ℕ)) → v ≡ node.Text s → ⊥) → ((c : ℕ) (ids : Bor (List TypeId)) → v ≡ node.Const c ids → ⊥) →
      ((i : TermId) → v ≡ node.Abs i → ⊥) → ((f : TermId) (ids : Bor (List TermId)) → v ≡ node.App f ids → ⊥) → node_tree b (term_shape v) ≡ tree b term.0 →
      IsOver k r ((nodes_of k).of_node n) e → IsOver k r ((counting_of k).of_term n (tree b term.0)) e
  other_over r e v x c y z t p =
      let w = other_counts v x c y z t in
      over_part k r ((nodes_of k).of_node n) ((counting_of k).of_term n (tree b term.0)) e (omega (arith, w)) p

-- goals by their tops

module _ (b : Nodes) (k : Look) (n r : ℕ) (g : Goal) (ss mid ss' : List Source) where
  pub atom_met : (t : TermId) → g ≡ code.Atom t → ss' ≡ ss ++ on.Term t 0 ∷ [] → IsMet b k r r ss ss' (goal_counts (counting_of k) n (goal_of b g))
  atom_met t is e =
      let w = one_more (source_counts b (counting_of k)) ss ss' (on.Term t 0) e in
      let s = ap (goal_counts (counting_of k) n) (ap (goal_of b) is ∙ atom_is b t) in
      omega (arith, w, s)

  pub cut_met : g ≡ code.Cut → IsMet b k r r ss ss (goal_counts (counting_of k) n (goal_of b g))
  cut_met is = let s = ap (goal_counts (counting_of k) n) (ap (goal_of b) is ∙ cut_is b) in omega (arith, s)

  pub either_met : (q : ℕ) (l h : Vec Goal Global) (ls hs : Bor (List Goal)) → g ≡ code.Either l h → ls.now ≡ l.items → hs.now ≡ h.items → q ≡ (counting_of k).to_block n →
      mid ≡ ss ++ on.Goals ls q ∷ [] → ss' ≡ mid ++ on.Goals hs q ∷ [] → IsMet b k r r ss ss' (goal_counts (counting_of k) n (goal_of b g))
  either_met q l h ls hs is left right at m e =
      let w = two_more (source_counts b (counting_of k)) ss mid ss' (on.Goals ls q) (on.Goals hs q) m e in
      let s = ap (goal_counts (counting_of k) n) (ap (goal_of b) is ∙ either_is b l h) in
      let x : goals_counts (counting_of k) q (goals_of b ls.now) ≡ goals_counts (counting_of k) ((counting_of k).to_block n) (goals_of b l.items) = λ i. goals_counts
      (counting_of k) (at i) (goals_of b (left i)) in
      let y : goals_counts (counting_of k) q (goals_of b hs.now) ≡ goals_counts (counting_of k) ((counting_of k).to_block n) (goals_of b h.items) = λ i. goals_counts
      (counting_of k) (at i) (goals_of b (right i)) in
      omega (arith, w, s, x, y)

  pub some_met : (T : TypeId) (l : Vec Goal Global) (ls : Bor (List Goal)) → g ≡ code.Some T l → ls.now ≡ l.items → ss' ≡ ss ++ on.Goals ls n ∷ [] →
      IsMet b k r r ss ss' (goal_counts (counting_of k) n (goal_of b g))
  some_met T l ls is same e =
      let w = one_more (source_counts b (counting_of k)) ss ss' (on.Goals ls n) e in
      let s = ap (goal_counts (counting_of k) n) (ap (goal_of b) is ∙ some_is b T l) in
      let x = ap (λ l. goals_counts (counting_of k) n (goals_of b l)) same in
      omega (arith, w, s, x)

  pub all_met : (q : ℕ) (T : TypeId) (l : Vec Goal Global) (ls : Bor (List Goal)) → g ≡ code.All T l → ls.now ≡ l.items → q ≡ (counting_of k).to_block n → ss' ≡ ss ++ on.Goals ls q ∷ [] →
      IsMet b k r r ss ss' (goal_counts (counting_of k) n (goal_of b g))
  all_met q T l ls is same at e =
      let w = one_more (source_counts b (counting_of k)) ss ss' (on.Goals ls q) e in
      let s = ap (goal_counts (counting_of k) n) (ap (goal_of b) is ∙ all_is b T l) in
      let x : goals_counts (counting_of k) q (goals_of b ls.now) ≡ goals_counts (counting_of k) ((counting_of k).to_block n) (goals_of b l.items) = λ i. goals_counts
      (counting_of k) (at i) (goals_of b (same i)) in
      omega (arith, w, s, x)

  pub assume_met : (q : ℕ) (cs : Vec Clause Global) (l : Vec Goal Global) (ds : Bor (List Clause)) (ls : Bor (List Goal)) → g ≡ code.Assume cs l → ds.now ≡ cs.items → ls.now ≡ l.items →
      q ≡ (counting_of k).to_block n → mid ≡ ss ++ on.Clauses ds q ∷ [] → ss' ≡ mid ++ on.Goals ls q ∷ [] → IsMet b k r r ss ss' (goal_counts (counting_of k) n (goal_of b g))
  assume_met q cs l ds ls is left right at m e =
      let w = two_more (source_counts b (counting_of k)) ss mid ss' (on.Clauses ds q) (on.Goals ls q) m e in
      let s = ap (goal_counts (counting_of k) n) (ap (goal_of b) is ∙ assume_is b cs l) in
      let x : clauses_counts (counting_of k) q (clauses_of b ds.now) ≡ clauses_counts (counting_of k) ((counting_of k).to_block n) (clauses_of b cs.items) = λ i. clauses_counts
      (counting_of k) (at i) (clauses_of b (left i)) in
      let y : goals_counts (counting_of k) q (goals_of b ls.now) ≡ goals_counts (counting_of k) ((counting_of k).to_block n) (goals_of b l.items) = λ i. goals_counts
      (counting_of k) (at i) (goals_of b (right i)) in
      omega (arith, w, s, x, y)

  pub not_met : (q : ℕ) (l : Vec Goal Global) (ls : Bor (List Goal)) → g ≡ code.Not l → ls.now ≡ l.items → q ≡ (counting_of k).to_block n → ss' ≡ ss ++ on.Goals ls q ∷ [] →
      IsMet b k r r ss ss' (goal_counts (counting_of k) n (goal_of b g))
  not_met q l ls is same at e =
      let w = one_more (source_counts b (counting_of k)) ss ss' (on.Goals ls q) e in
      let s = ap (goal_counts (counting_of k) n) (ap (goal_of b) is ∙ not_is b l) in
      let x : goals_counts (counting_of k) q (goals_of b ls.now) ≡ goals_counts (counting_of k) ((counting_of k).to_block n) (goals_of b l.items) = λ i. goals_counts
      (counting_of k) (at i) (goals_of b (same i)) in
      omega (arith, w, s, x)

-- a block that stands too deep

module _ (b : Nodes) (k : Look) (n r : ℕ) (g : Goal) (e : GenRefusal) (over : (gs : Goals) → IsOver k r (goals_counts (counting_of k) ((counting_of k).to_block n) gs) e) where
  block_over : (gs : Goals) (m : ℕ) → goals_counts (counting_of k) ((counting_of k).to_block n) gs ≤ m → m ≡ goal_counts (counting_of k) n (goal_of b g) →
      IsOver k r (goal_counts (counting_of k) n (goal_of b g)) e
  block_over gs m le is = over_part k r (goals_counts (counting_of k) ((counting_of k).to_block n) gs) (goal_counts (counting_of k) n (goal_of b g)) e (omega (arith, le, is)) (over gs)

  pub either_over : (l h : Vec Goal Global) → g ≡ code.Either l h → IsOver k r (goal_counts (counting_of k) n (goal_of b g)) e
  either_over l h is = block_over (goals_of b l.items) _ (omega arith) (sym (ap (goal_counts (counting_of k) n) (ap (goal_of b) is ∙ either_is b l h)))

  pub all_over : (T : TypeId) (l : Vec Goal Global) → g ≡ code.All T l → IsOver k r (goal_counts (counting_of k) n (goal_of b g)) e
  all_over T l is = block_over (goals_of b l.items) _ (omega arith) (sym (ap (goal_counts (counting_of k) n) (ap (goal_of b) is ∙ all_is b T l)))

  pub assume_over : (cs : Vec Clause Global) (l : Vec Goal Global) → g ≡ code.Assume cs l → IsOver k r (goal_counts (counting_of k) n (goal_of b g)) e
  assume_over cs l is = block_over (goals_of b l.items) _ (omega arith) (sym (ap (goal_counts (counting_of k) n) (ap (goal_of b) is ∙ assume_is b cs l)))

  pub not_over : (l : Vec Goal Global) → g ≡ code.Not l → IsOver k r (goal_counts (counting_of k) n (goal_of b g)) e
  not_over l is = block_over (goals_of b l.items) _ (omega arith) (sym (ap (goal_counts (counting_of k) n) (ap (goal_of b) is ∙ not_is b l)))

-- a clause

clause_counts_is : (b : Nodes) (k : Look) (n : ℕ) (c : Clause) → clauses_counts (counting_of k) n (clauses (clause_of b c) no_clauses) ≡
    (counting_of k).of_clause + (counting_of k).of_term 0 (tree b c.head.0) + goals_counts (counting_of k) n (goals_of b c.body.items)
clause_counts_is b k n c = let s = ap (λ F. clauses_counts (counting_of k) n (clauses F no_clauses)) (clause_is b c) in omega (arith, s)

pub clause_met : (b : Nodes) (k : Look) (n r r' : ℕ) (c : Clause) (ss mid ss' : List Source) (ls : Bor (List Goal)) → ls.now ≡ c.body.items → r ≡ r' + (counting_of k).of_clause →
    mid ≡ ss ++ on.Goals ls n ∷ [] → ss' ≡ mid ++ on.Term c.head 0 ∷ [] → IsMet b k r r' ss ss' (clauses_counts (counting_of k) n (clauses (clause_of b c) no_clauses))
clause_met b k n r r' c ss mid ss' ls same t m e =
    let w = two_more (source_counts b (counting_of k)) ss mid ss' (on.Goals ls n) (on.Term c.head 0) m e in
    let s = clause_counts_is b k n c in
    let x = ap (λ l. goals_counts (counting_of k) n (goals_of b l)) same in
    omega (arith, w, s, x, t)

pub clause_over : (b : Nodes) (k : Look) (n r : ℕ) (c : Clause) (e : GenRefusal) → IsOver k r (counting_of k).of_clause e →
    IsOver k r (clauses_counts (counting_of k) n (clauses (clause_of b c) no_clauses)) e
clause_over b k n r c e p =
    let s = clause_counts_is b k n c in
    over_part k r (counting_of k).of_clause (clauses_counts (counting_of k) n (clauses (clause_of b c) no_clauses)) e (omega (arith, s)) p

-- the next one of a list

pub clauses_split : (k : Look) (n : ℕ) (F : FlatClause) (Fs : Clauses) →
    clauses_counts (counting_of k) n (clauses F Fs) ≡ clauses_counts (counting_of k) n (clauses F no_clauses) + clauses_counts (counting_of k) n Fs
clauses_split k n (clause m vs h gs) Fs = omega arith

module _ (b : Nodes) (k : Look) (n r r' : ℕ) (ss mid ss' : List Source) (s : Source) where
  pub clauses_first : (cs rest : Bor (List Clause)) (c : Clause) → s ≡ on.Clauses cs n → cs.now ≡ c ∷ rest.now → mid ≡ ss ++ on.Clauses rest n ∷ [] →
      IsMet b k r r' mid ss' (clauses_counts (counting_of k) n (clauses (clause_of b c) no_clauses)) → IsMet b k r r' ss ss' (source_counts b (counting_of k) s)
  clauses_first cs rest c is first m e =
      let w = one_more (source_counts b (counting_of k)) ss mid (on.Clauses rest n) m in
      let x = ap (source_counts b (counting_of k)) is in
      let y = ap (λ l. clauses_counts (counting_of k) n (clauses_of b l)) first in
      let z = clauses_split k n (clause_of b c) (clauses_of b rest.now) in
      omega (arith, w, x, y, z, e)

  pub goals_first : (gs rest : Bor (List Goal)) (g : Goal) → s ≡ on.Goals gs n → gs.now ≡ g ∷ rest.now → mid ≡ ss ++ on.Goals rest n ∷ [] →
      IsMet b k r r' mid ss' (goal_counts (counting_of k) n (goal_of b g)) → IsMet b k r r' ss ss' (source_counts b (counting_of k) s)
  goals_first gs rest g is first m e =
      let w = one_more (source_counts b (counting_of k)) ss mid (on.Goals rest n) m in
      let x = ap (source_counts b (counting_of k)) is in
      let y = ap (λ l. goals_counts (counting_of k) n (goals_of b l)) first in
      omega (arith, w, x, y, e)

  pub terms_first : (ts rest : Bor (List TermId)) (t : TermId) → s ≡ on.Terms ts n → ts.now ≡ t ∷ rest.now → mid ≡ ss ++ on.Terms rest n ∷ [] → ss' ≡ mid ++ on.Term t n ∷ [] → r ≡ r' →
      IsMet b k r r' ss ss' (source_counts b (counting_of k) s)
  terms_first ts rest t is first m e same =
      let w = two_more (source_counts b (counting_of k)) ss mid ss' (on.Terms rest n) (on.Term t n) m e in
      let x = ap (source_counts b (counting_of k)) is in
      let f : TermId → ℕ = λ t. (counting_of k).of_term n (tree b t.0) in
      let y = ap (sum_by f) first in
      let z = sum_by-cons f t rest.now in
      omega (arith, w, x, y, z, same)

  pub term_same : (t : TermId) → s ≡ on.Term t n → IsMet b k r r' ss ss' ((counting_of k).of_term n (tree b t.0)) → IsMet b k r r' ss ss' (source_counts b (counting_of k) s)
  term_same t is e = let x = ap (source_counts b (counting_of k)) is in omega (arith, x, e)

-- a refusal there

module _ (b : Nodes) (k : Look) (n r : ℕ) (s : Source) (e : GenRefusal) where
  pub first_clause_over : (cs rest : Bor (List Clause)) (c : Clause) → s ≡ on.Clauses cs n → cs.now ≡ c ∷ rest.now →
      IsOver k r (clauses_counts (counting_of k) n (clauses (clause_of b c) no_clauses)) e → IsOver k r (source_counts b (counting_of k) s) e
  first_clause_over cs rest c is first p =
      let x = ap (source_counts b (counting_of k)) is in
      let y = ap (λ l. clauses_counts (counting_of k) n (clauses_of b l)) first in
      let z = clauses_split k n (clause_of b c) (clauses_of b rest.now) in
      over_part k r (clauses_counts (counting_of k) n (clauses (clause_of b c) no_clauses)) (source_counts b (counting_of k) s) e (omega (arith, x, y, z)) p

  pub first_goal_over : (gs rest : Bor (List Goal)) (g : Goal) → s ≡ on.Goals gs n → gs.now ≡ g ∷ rest.now → IsOver k r (goal_counts (counting_of k) n (goal_of b g)) e →
      IsOver k r (source_counts b (counting_of k) s) e
  first_goal_over gs rest g is first p =
      let x = ap (source_counts b (counting_of k)) is in
      let y = ap (λ l. goals_counts (counting_of k) n (goals_of b l)) first in
      over_part k r (goal_counts (counting_of k) n (goal_of b g)) (source_counts b (counting_of k) s) e (omega (arith, x, y)) p

  pub goals_end_over : (gs : Bor (List Goal)) → s ≡ on.Goals gs n → gs.now ≡ [] → IsOver k r ((counting_of k).of_end n) e → IsOver k r (source_counts b (counting_of k) s) e
  goals_end_over gs is none p =
      let x = ap (source_counts b (counting_of k)) is in
      let y = ap (λ l. goals_counts (counting_of k) n (goals_of b l)) none in
      over_part k r ((counting_of k).of_end n) (source_counts b (counting_of k) s) e (omega (arith, x, y)) p

  pub term_over : (t : TermId) → s ≡ on.Term t n → IsOver k r ((counting_of k).of_term n (tree b t.0)) e → IsOver k r (source_counts b (counting_of k) s) e
  term_over t is p =
      let x = ap (source_counts b (counting_of k)) is in
      over_part k r ((counting_of k).of_term n (tree b t.0)) (source_counts b (counting_of k) s) e (omega (arith, x)) p

-- no more of a list

pub clauses_none : (b : Nodes) (k : Look) (n r : ℕ) (ss : List Source) (s : Source) (xs : Bor (List Clause)) → s ≡ on.Clauses xs n → xs.now ≡ [] → IsMet b k r r ss ss (source_counts b (counting_of k) s)
clauses_none b k n r ss s xs is none =
    let x = ap (source_counts b (counting_of k)) is in let y = ap (λ l. clauses_counts (counting_of k) n (clauses_of b l)) none in omega (arith, x, y)

pub goals_none : (b : Nodes) (k : Look) (n r r' : ℕ) (ss : List Source) (s : Source) (xs : Bor (List Goal)) → s ≡ on.Goals xs n → xs.now ≡ [] → r ≡ r' + (counting_of k).of_end n →
    IsMet b k r r' ss ss (source_counts b (counting_of k) s)
goals_none b k n r r' ss s xs is none t =
    let x = ap (source_counts b (counting_of k)) is in let y = ap (λ l. goals_counts (counting_of k) n (goals_of b l)) none in omega (arith, x, y, t)

pub terms_none : (b : Nodes) (k : Look) (n r : ℕ) (ss : List Source) (s : Source) (xs : Bor (List TermId)) → s ≡ on.Terms xs n → xs.now ≡ [] → IsMet b k r r ss ss (source_counts b (counting_of k) s)
terms_none b k n r ss s xs is none =
    let x = ap (source_counts b (counting_of k)) is in let y = ap (sum_by (λ (t : TermId). (counting_of k).of_term n (tree b t.0))) none in omega (arith, x, y)

-- the walk as a whole: what was to be met, and what is left

pub met_on : (b : Nodes) (k k' : Look) (r0 r r' total : ℕ) (ss popped ss' : List Source) (s : Source) → k' ≡ k → ss ≡ popped ++ s ∷ [] →
    r0 + counts_left b (counting_of k) ss ≡ r + total → IsMet b k' r r' popped ss' (source_counts b (counting_of k') s) → r0 + counts_left b (counting_of k) ss' ≡ r' + total
met_on b k k' r0 r r' total ss popped ss' s same e i m = go (subst (λ (k : Look). IsMet b k r r' popped ss' (source_counts b (counting_of k) s)) same m)
  where
    go : IsMet b k r r' popped ss' (source_counts b (counting_of k) s) → r0 + counts_left b (counting_of k) ss' ≡ r' + total
    go m = let w = one_more (source_counts b (counting_of k)) popped ss s e in omega (arith, w, i, m)

pub over_on : (b : Nodes) (k k' : Look) (r0 r total : ℕ) (ss popped : List Source) (s : Source) (e : GenRefusal) → k' ≡ k → ss ≡ popped ++ s ∷ [] →
    r0 + counts_left b (counting_of k) ss ≡ r + total → IsOver k' r (source_counts b (counting_of k') s) e → IsOver k r0 total e
over_on b k k' r0 r total ss popped s e same split i p = go e (subst (λ (k : Look). IsOver k r (source_counts b (counting_of k) s) e) same p)
  where
    go : (e : GenRefusal) → IsOver k r (source_counts b (counting_of k) s) e → IsOver k r0 total e
    go (refusal.Limit l) p = (p.0, (let w = one_more (source_counts b (counting_of k)) popped ss s split in let q = p.1 in omega (arith, w, i, q)))
    go refusal.Memory p = tt
