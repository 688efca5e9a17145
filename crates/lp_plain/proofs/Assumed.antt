-- Assumptions that are put on: the trees find the clauses that were assumed, the newest first; what stood for numbers before stands for them still.
use Rattle.std.proofs.Common.{◌≡◌, ℕ, zero, suc, ◌+◌, ◌<◌, ◌≤◌, List, [], ◌∷◌, ◌++◌, map, length, cond, inl, inr, refl, sym, ap, ◌∙◌, subst, arith, Bool, true, false, true≢false, Option, None, Some}
use Rattle.std.specs.Prelude.{◌⊎◌, All, filter, slice_get}
use Rattle.std.proofs.lemmas.Bool.Decides.{nat_tests}
use Rattle.std.proofs.lemmas.List.{length-map}
use Rattle.std.proofs.lemmas.Option.{slice_get_within}
use Rattle.std.proofs.lemmas.List.Elements.{All-weaker}
use Rattle.lp_lemmas.proofs.Lists.{get_append}
use Rattle.lp_lemmas.proofs.Numbers.{nat_eq_self}
use Rattle.lp_calculus.specs.Instance.{instance_term}
use Rattle.lp_calculus.specs.Spine.{head_of}
use Rattle.lp_calculus.specs.Term.{Term, Atom, index, atom, abs, app, constant, eigen, shift}
use Rattle.lp_calculus.specs.Types.{Ty, instance}
use Rattle.lp_term.specs.Nodes.{Nodes, Extends, tree}
use Rattle.lp_term.proofs.Trees.{extends_same}
use Rattle.lp_model.specs.Branch.{Entry, entries, both_written}
use Rattle.lp_model.specs.Flat.{Clause, clause, Clauses, no_clauses, clauses, Goal, Written, clause_list, collect_clauses, under_all, written_in_clauses}
use Rattle.lp_model.specs.Index.{instantiate, lifted}
use Rattle.lp_pattern.specs.Growing.{GoesOn}
use Rattle.lp_pattern.proofs.Keeps.{goes_on_same, goes_on_then}
use Rattle.lp_plain.specs.declared.frame.Assumption.{Assumption}
use Rattle.lp_plain.specs.declared.frame.Frame.{Frame}
use Rattle.lp_plain.specs.declared.frame.Place.{Place}
use Rattle.lp_plain.specs.declared.head.Head.{Head}
use Rattle.lp_plain.specs.declared.head.Head.TheVariants as head
use Rattle.lp_plain.specs.declared.instance.Values.{Values}
use Rattle.lp_plain.specs.declared.machine.Machine.{Machine}
use Rattle.lp_plain.specs.declared.openness.Standing.{Standing}
use Rattle.lp_plain.specs.declared.table.Rule.{Rule}
use Rattle.lp_plain.specs.declared.types.Renewal.{Renewal}
use Rattle.lp_plain.specs.Assuming.{Lists, lists_of, ListsGrow, clause_in, clauses_in, written_at, head_at, head_term, is_head, is_for, IsAssumed, AreAssumed, links, AreUnder, HasAssumed, HasWritten, no_standing, a_standing, IsNumberIn, IsPlaceAt, IsLaterAround, AssumesMore, KeepsAssumed, IsOneMore, IsTreeOf}
use Rattle.lp_plain.specs.Candidates.{IsChain, back}
use Rattle.lp_plain.specs.Entries.{Around, AreEntries, no_frame, a_frame, HasValues, KeepsGoals, placed}
use Rattle.lp_plain.specs.Instances.{AreValues}
use Rattle.lp_plain.specs.Keeping.{KeepsCourse}
use Rattle.lp_plain.specs.Renewal.{renewing}
use Rattle.lp_plain.specs.Scopes.{Blocks, blocks_of}
use Rattle.lp_plain.specs.Tables.{Shown, shown, IsNumbered, IsRule, AreRules, Never}
use Rattle.lp_plain.specs.Within.{IsTableIn, StandsIn}
use Rattle.lp_plain.proofs.Frames.{keeps_then}
use Rattle.lp_plain.proofs.Growing.{all_taken, scope_later}
use Rattle.lp_plain.proofs.Later.{rule_later}
use Rattle.lp_plain.proofs.LaterIndex.{chain_longer}
use Rattle.lp_plain.proofs.Opening.{same_stands}
use Rattle.lp_plain.proofs.OrderedLinks.{back_some, kept_length, kept_longer, link_at}
use Rattle.lp_plain.proofs.NewestTrees.{finds_on}
use Rattle.lp_plain.proofs.Within.{all_at, longer_list}

-- numbers stand for the same while the lists grow

pub number_in_more : (a b : ℕ) (o : Option ℕ) → a ≤ b → IsNumberIn a o → IsNumberIn b o
number_in_more a b None l h = tt
number_in_more a b (Some i) l h = omega (arith, l, h)

module _ (k l : Lists) (i : IsTableIn (length k.bank.terms) k.table) (v : AreValues k.bank k.blocks.values) (g : ListsGrow k l) where
  pub values_on : (o : Option ℕ) (σ : ℕ → Term) → HasValues k.bank k.blocks o σ → HasValues l.bank l.blocks o σ
  values_on o σ h = scope_later k.bank l.bank g.bank k.blocks l.blocks v g.blocks g.values o σ h

  pub rule_on : (n : ℕ) (c : Clause) → IsRule k.bank Never (shown k.table) n c → IsRule l.bank Never (shown l.table) n c
  rule_on n c h = subst (λ t. IsRule l.bank Never (shown t) n c) (sym g.table) (rule_later k.bank l.bank g.bank k.table i n c h)

  pub assumed_on : (n : ℕ) (c : Clause) → IsAssumed k n c → IsAssumed l n c
  assumed_on n c h = record {
    assumption = h.assumption;
    written = h.written;
    values = h.values;
    there = subst (λ xs. slice_get xs n ≡ Some h.assumption) (sym g.assumptions.1) (get_append k.assumptions g.assumptions.0 n h.assumption h.there);
    rule = rule_on h.assumption.rule h.written h.rule;
    scope = values_on h.assumption.values.scope h.values h.scope;
    is = h.is;
  }

  all_on : (ns : List ℕ) (cs : List Clause) → AreAssumed k ns cs → AreAssumed l ns cs
  all_on [] [] h = tt
  all_on [] (c ∷ cs) h = absurd h
  all_on (n ∷ ns) [] h = absurd h
  all_on (n ∷ ns) (c ∷ cs) h = (assumed_on n c h.0, all_on ns cs h.1)

  pub links_on : (o : Option ℕ) (ns : List ℕ) → IsChain (links k.assumptions) o ns → IsChain (links l.assumptions) o ns
  links_on o ns h =
      subst (λ xs. IsChain (links xs) o ns) (sym g.assumptions.1)
      (let e = kept_longer back (λ (x : Assumption). x.older) k.assumptions g.assumptions.0 in subst (λ xs. IsChain xs o ns) (sym e.1) (chain_longer (links k.assumptions) e.0 o ns h))

  pub has_on : (o : Option ℕ) (cs : List Clause) → HasAssumed k o cs → HasAssumed l o cs
  has_on o cs h = (
    h.0,
    λ e.
        let u = h.1 e in
        record {
          newest = u.newest;
          numbers = u.numbers;
          found = finds_on k.newest l.newest e g.newest u.found;
          chain = links_on u.newest u.numbers u.chain;
          clauses = all_on u.numbers (filter (is_for e) cs) u.clauses;
        },
  )

  numbered_on : (n : ℕ) (cs : Clauses) → IsNumbered (shown k.table).frees n (λ f. collect_clauses f 0 cs) → IsNumbered (shown l.table).frees n (λ f. collect_clauses f 0 cs)
  numbered_on n cs h = subst (λ t. IsNumbered (shown t).frees n (λ f. collect_clauses f 0 cs)) (sym g.table) h

  pub written_on : {o : Option ℕ} {w : Written} → HasWritten k o w → HasWritten l o w
  written_on (no_standing e z) = no_standing e z
  written_on (a_standing j s cs σ before e q y f h r z) =
      a_standing j s cs σ before e (subst (λ xs. slice_get xs j ≡ Some s) (sym g.standings.1) (get_append k.standings g.standings.0 j s q)) y
      (numbered_on s.free cs f) (values_on s.values.scope σ h) (written_on r) z

  pub place_on : (a d : Around) (p : Place) → IsLaterAround (length k.newest) (length k.standings) a d → IsPlaceAt k a p → IsPlaceAt l d p
  place_on a d p e h = record {
    tree = number_in_more (length k.newest) (length l.newest) p.assumed (longer_list k.newest l.newest g.newest) h.tree;
    standing = number_in_more (length k.standings) (length l.standings) p.standing (longer_list k.standings l.standings g.standings) h.standing;
    assumed = subst (HasAssumed l p.assumed) (sym (e.assumed p.assumed h.tree)) (has_on p.assumed (a.assumed p.assumed) h.assumed);
    written = subst (HasWritten l p.standing) (sym (e.written p.standing h.standing)) (written_on h.written);
  }

  pub places_on : (a d : Around) (fs : List Frame) → IsLaterAround (length k.newest) (length k.standings) a d → All
      (λ (f : Frame). IsPlaceAt k a f.place) fs → All (λ (f : Frame). IsPlaceAt l d f.place) fs
  places_on a d fs e h = All-weaker (λ (f : Frame). IsPlaceAt k a f.place) (λ (f : Frame). IsPlaceAt l d f.place) (λ f z. place_on a d f.place e z) fs h

  -- one standing more
  pub stood : (number : ℕ) (s : Standing) (cs : Clauses) (σ : ℕ → Term) (before : Written) → slice_get l.standings number ≡ Some s → IsNumberIn number s.older → IsNumbered
      (shown k.table).frees s.free (λ f. collect_clauses f 0 cs) → HasValues k.bank k.blocks s.values.scope σ →
      HasWritten k s.older before → HasWritten l (Some number) (both_written (written_at σ s.values.types (written_in_clauses cs)) before)
  stood number s cs σ before q y f h r = a_standing number s cs σ before refl q y (numbered_on s.free cs f) (values_on s.values.scope σ h) (written_on r) refl

-- entries name older numbers alone
module _ (l : Lists) (a d : Around) (e : IsLaterAround (length l.newest) (length l.standings) a d) where
  placed_same : (p : Place) (gs : List Goal) → IsPlaceAt l a p → placed a p gs ≡ placed d p gs
  placed_same p gs h = λ i. entries gs (sym (e.assumed p.assumed h.tree) i) (sym (e.written p.standing h.standing) i) p.level (sym e.mark i p.mark)

  pub entries_on : (b : Nodes) (t : Shown) (s : Blocks) {fs : List Frame} {o : Option ℕ} {es : List Entry} → All
      (λ (f : Frame). IsPlaceAt l a f.place) fs → AreEntries b t s a fs o es → AreEntries b t s d fs o es
  entries_on b t s h (no_frame q z) = no_frame q z
  entries_on b t s {fs} h (a_frame j f gs rest q g k w z) =
      a_frame j f gs rest q g k (entries_on b t s (all_taken (λ (f : Frame). IsPlaceAt l a f.place) j fs h) w)
      (z ∙ ap (λ x. x ++ rest) (placed_same f.place gs (all_at (λ (f : Frame). IsPlaceAt l a f.place) fs j f g h)))

-- the newest assumption of a chain is one of the list
newest_back : (xs : List Assumption) (o : Option ℕ) (ks : List ℕ) → IsChain (links xs) o ks → back (length xs) o ≡ o
newest_back xs o [] c = subst (λ z. back (length xs) z ≡ z) (sym c) refl
newest_back xs o (k ∷ ks) c =
    let l = slice_get_within (links xs) k c.0 c.2 in
    let e = kept_length back (map (λ (x : Assumption). x.older) xs) ∙ length-map xs (λ (x : Assumption). x.older) in
    subst (λ z. back (length xs) z ≡ z) (sym c.1) (back_some (length xs) k (omega (arith, l, e)))

-- heads

heads_same : (o h : Head) → is_head o (Some h) ≡ true → o ≡ h
heads_same (head.Constant c) (head.Constant d) e = let q : c ≡ d = grind (arith, nat_tests, e) in ap head.Constant q
heads_same (head.Constant c) (head.Eigen k) e = absurd (cc)
heads_same (head.Eigen k) (head.Constant c) e = absurd (cc)
heads_same (head.Eigen k) (head.Eigen l) e = let q : k ≡ l = grind (arith, nat_tests, e) in ap head.Eigen q

head_itself : (h : Head) → is_head h (Some h) ≡ true
head_itself (head.Constant c) = nat_eq_self c
head_itself (head.Eigen k) = nat_eq_self k

heads_apart : (o h : Head) → is_head o (Some h) ≡ false → o ≡ h → ⊥
heads_apart o h e q = true≢false (sym (subst (λ z. is_head z (Some h) ≡ true) (sym q) (head_itself h)) ∙ e)

head_instanced : (τ : ℕ → Term) (θ : ℕ → Ty) (t : Term) → head_of (instantiate τ (instance_term θ t)) ≡ head_of (instantiate τ (instance_term θ (head_of t)))
head_instanced τ θ (index i) = refl
head_instanced τ θ (atom a) = refl
head_instanced τ θ (abs b) = refl
head_instanced τ θ (app f a) = head_instanced τ θ f

eigen_below : (vs : List Ty) (σ : ℕ → Term) (k : ℕ) (a : Atom) (i : ℕ) → k ≡ length vs + i → σ i ≡ atom a → under_all lifted vs σ k ≡ atom a
eigen_below [] σ k a i e h = (let q : k ≡ i = omega (arith, e) in ap σ q) ∙ h
eigen_below (v ∷ vs) σ zero a i e h = absurd (omega (arith, e))
eigen_below (v ∷ vs) σ (suc k) a i e h = ap (shift 0 1) (eigen_below vs σ k a i (omega (arith, e)) h)

-- the head of a clause is a constant, or the value of a variable around the clause
pub constant_head : (b : Nodes) (t : Shown) (rule : ℕ) (c : Clause) (r : Renewal) (σ : ℕ → Term) (number : ℕ) (ts : List Ty) (got : Rule) → IsRule b
    Never t rule c → slice_get t.rules rule ≡ Some got → atom (constant number ts) ≡ tree b got.head.0 → head_at (clause_in σ r c) ≡ Some
    (head.Constant number)
constant_head b t rule (clause n vs h body) r σ number ts got k e q =
    let same : k.0 ≡ got = (let z = k.1 in cc) in
    let w : atom (constant number ts) ≡ head_of h = q ∙ ap (λ (x : Rule). tree b x.head.0) (sym same) ∙ k.3.head in
    ap head_term (head_instanced (under_all lifted (map (instance (renewing r)) vs) σ) (renewing r) h ∙ ap
    (λ z. head_of (instantiate (under_all lifted (map (instance (renewing r)) vs) σ) (instance_term (renewing r) z))) (sym w))

pub eigen_head : (b : Nodes) (t : Shown) (rule : ℕ) (c : Clause) (r : Renewal) (σ : ℕ → Term) (place outer level : ℕ) (got : Rule) → IsRule b Never t
    rule c → slice_get t.rules rule ≡ Some got → index place ≡ tree b got.head.0 → place ≡ length got.slots.items + outer →
    σ outer ≡ atom (eigen level) → head_at (clause_in σ r c) ≡ Some (head.Eigen level)
eigen_head b t rule (clause n vs h body) r σ place outer level got k e q l v =
    let same : k.0 ≡ got = (let z = k.1 in cc) in
    let w : index place ≡ head_of h = q ∙ ap (λ (x : Rule). tree b x.head.0) (sym same) ∙ k.3.head in
    let count : place ≡ length (map (instance (renewing r)) vs) + outer = l ∙ ap (λ (x : Rule). length x.slots.items + outer) (sym same) ∙ ap
    (λ z. z + outer) (k.3.count ∙ sym (length-map vs (instance (renewing r)))) in
    ap head_term (head_instanced (under_all lifted (map (instance (renewing r)) vs) σ) (renewing r) h ∙ ap
    (λ z. head_of (instantiate (under_all lifted (map (instance (renewing r)) vs) σ) (instance_term (renewing r) z))) (sym w) ∙
    ap head_of (eigen_below (map (instance (renewing r)) vs) σ place (eigen level) outer count v))

-- one clause more
module _ (m n : Machine) (rule : ℕ) (values : Values) (before : Option ℕ) (h : Head) (root : ℕ) (i : StandsIn m)
    (g : ListsGrow (lists_of m) (lists_of n)) (one : IsOneMore m n rule values before h root) where
  pub has_more : (cs : List Clause) (w c : Clause) (σ : ℕ → Term) → HasAssumed (lists_of m) before cs → IsRule m.bank Never (shown m.table) rule w →
      HasValues m.bank (blocks_of m.scopes) values.scope σ → c ≡ clause_in σ values.types w → head_at c ≡ Some h → HasAssumed (lists_of n) (Some root)
      (c ∷ cs)
  has_more cs w c σ u r v e q = (((h, q), u.0), λ other. go other (is_head other (Some h)) refl)
    where
      for_it : (other : Head) (t : Bool) → is_head other (Some h) ≡ t → is_for other c ≡ t
      for_it other t z = ap (is_head other) q ∙ z

      new : IsAssumed (lists_of n) (length m.assumptions.items) c
      new = record {
        assumption = record { rule = rule; values = values; older = one.older };
        written = w;
        values = σ;
        there = one.assumption;
        rule = rule_on (lists_of m) (lists_of n) i.table i.values g rule w r;
        scope = values_on (lists_of m) (lists_of n) i.table i.values g values.scope σ v;
        is = e;
      }

      of_it : is_head h (Some h) ≡ true → AreUnder (lists_of n) (Some root) h (c ∷ cs)
      of_it z =
          let o = u.1 h in
          let same : o.newest ≡ one.older = sym (one.before o.newest o.found) in
          record {
            newest = Some (length m.assumptions.items);
            numbers = length m.assumptions.items ∷ o.numbers;
            found = one.there;
            chain = (
              one.older,
              refl,
              link_at back (λ (x : Assumption). x.older) n.assumptions.items (length m.assumptions.items) (record { rule = rule; values = values; older = one.older }) one.assumption ∙
                  ap Some (subst (λ z. back (length m.assumptions.items) z ≡ z) same (newest_back m.assumptions.items o.newest o.numbers o.chain)),
              subst (λ x. IsChain (links n.assumptions.items) x o.numbers) same (links_on (lists_of m) (lists_of n) i.table i.values g o.newest o.numbers o.chain),
            );
            clauses = subst (λ t. AreAssumed (lists_of n) (length m.assumptions.items ∷ o.numbers) (cond t (c ∷ filter (is_for h) cs) (filter (is_for h) cs))) (sym (for_it h true z))
                (new, all_on (lists_of m) (lists_of n) i.table i.values g o.numbers (filter (is_for h) cs) o.clauses);
          }

      go : (other : Head) (t : Bool) → is_head other (Some h) ≡ t → AreUnder (lists_of n) (Some root) other (c ∷ cs)
      go other true z = subst (λ x. AreUnder (lists_of n) (Some root) x (c ∷ cs)) (sym (heads_same other h z)) (of_it (head_itself h))
      go other false z =
          let o = u.1 other in
          record {
            newest = o.newest;
            numbers = o.numbers;
            found = one.others other o.newest (heads_apart other h z) o.found;
            chain = links_on (lists_of m) (lists_of n) i.table i.values g o.newest o.numbers o.chain;
            clauses = subst (λ t. AreAssumed (lists_of n) o.numbers (cond t (c ∷ filter (is_for other) cs) (filter (is_for other) cs)))
                (sym (for_it other false z)) (all_on (lists_of m) (lists_of n) i.table i.values g o.numbers (filter (is_for other) cs) o.clauses);
          }

-- clauses by their numbers

pub rules_within : (b : Nodes) (t : Shown) (from to : ℕ) (cs : Clauses) → AreRules b Never t from to cs → from ≤ to
rules_within b t from to no_clauses h = omega (arith, h)
rules_within b t from to (clauses c cs) h = let l = rules_within b t (suc from) to cs h.1 in omega (arith, l)

pub rules_none : (b : Nodes) (t : Shown) (from to : ℕ) (cs : Clauses) → AreRules b Never t from to cs → to ≤ from → cs ≡ no_clauses
rules_none b t from to no_clauses h l = refl
rules_none b t from to (clauses c cs) h l = absurd (let w = rules_within b t (suc from) to cs h.1 in omega (arith, w, l))

pub more_then : (m n o : Machine) → AssumesMore m n → AssumesMore n o → AssumesMore m o
more_then m n o g h = record {
  goals = keeps_then m n o g.goals h.goals;
  course = record { choices = h.course.choices ∙ g.course.choices; counts = h.course.counts ∙ g.course.counts; denied = h.course.denied ∙ g.course.denied; branch = h.course.branch ∙ g.course.branch };
  frames = h.frames ∙ g.frames;
  assumptions = goes_on_then m.assumptions.items n.assumptions.items o.assumptions.items g.assumptions h.assumptions;
  newest = goes_on_then m.newest.items n.newest.items o.newest.items g.newest h.newest;
}

pub more_grows : (m n : Machine) → AssumesMore m n → ListsGrow (lists_of m) (lists_of n)
more_grows m n g =
    let s = g.goals.known.scopes in
    record {
      bank = subst (λ b. Extends m.bank b) (sym g.goals.known.bank) (extends_same m.bank);
      table = g.goals.known.table;
      blocks = subst (λ z. GoesOn m.scopes.blocks.items z.blocks.items) (sym s) (goes_on_same m.scopes.blocks.items);
      values = subst (λ z. GoesOn m.scopes.values.items z.values.items) (sym s) (goes_on_same m.scopes.values.items);
      assumptions = g.assumptions;
      newest = g.newest;
      standings = subst (λ z. GoesOn m.standings.items z.items) (sym g.goals.known.standings) (goes_on_same m.standings.items);
    }

-- what clauses from a number on come to, in the search that assumes them
abbrev pub Assumes : (old new : Machine) → (from to : ℕ) → Place → (tree : Option ℕ) → Type 0
Assumes m n from to p tree = (cs : Clauses) (before : List Clause) (σ : ℕ → Term) → StandsIn m → HasAssumed (lists_of m) p.assumed before → AreRules m.bank Never (shown m.table) from to cs →
    HasValues m.bank (blocks_of m.scopes) p.values.scope σ → HasAssumed (lists_of n) tree (clause_list (clauses_in σ p.values.types cs) ++ before)

pub assumes_none : (m : Machine) (to : ℕ) (p : Place) → Assumes m m to to p p.assumed
assumes_none m to p cs before σ i h r v = subst (λ z. HasAssumed (lists_of m) p.assumed (clause_list (clauses_in σ p.values.types z) ++ before))
    (sym (rules_none m.bank (shown m.table) to to cs r (omega arith))) h

module _ (m n o : Machine) (from to left : ℕ) (p : Place) (tree : Option ℕ) (e : Head) (root : ℕ) (g : AssumesMore m n)
    (one : IsOneMore n o from p.values tree e root) (a : Assumes m n left to p tree) (above : left ≡ suc from) (within : left ≤ to)
    (head_is : (c : Clause) (σ : ℕ → Term) → IsRule n.bank Never (shown n.table) from c → HasValues n.bank (blocks_of n.scopes) p.values.scope σ →
    (r : Renewal) → head_at (clause_in σ r c) ≡ Some e) where
  pub assumes_more : Assumes m o from to p (Some root)
  assumes_more no_clauses before σ i h r v = absurd (omega (arith, r, above, within))
  assumes_more (clauses c cs) before σ i h r v =
      let grow = more_grows m n g in
      let stands = same_stands m n g.goals g.frames i in
      let rule : IsRule n.bank Never (shown n.table) from c = rule_on (lists_of m) (lists_of n) i.table i.values grow from c r.0 in
      let values : HasValues n.bank (blocks_of n.scopes) p.values.scope σ = values_on (lists_of m) (lists_of n) i.table i.values grow p.values.scope σ v in
      has_more n o from p.values tree e root stands (more_grows n o one.more) one (clause_list (clauses_in σ p.values.types cs) ++ before) c (clause_in σ p.values.types c) σ
      (a cs before σ i h (subst (λ z. AreRules m.bank Never (shown m.table) z to cs) (sym above) r.1) v) rule values refl (head_is c σ rule values p.values.types)

  pub tree_more : IsTreeOf m o from to p.assumed (Some root)
  tree_more = inr (root, refl, (let l = one.fresh in let k = longer_list m.newest.items n.newest.items g.newest in omega (arith, l, k)), one.within)

-- at the end
pub assumes_all : (m n : Machine) (from to left : ℕ) (p : Place) (tree : Option ℕ) → Assumes m n left to p tree → left ≤ from → (from ≤ left) ⊎ (left ≡ to) → Assumes m n from to p tree
assumes_all m n from to left p tree a l w cs before σ i h r v =
    let k = rules_within m.bank (shown m.table) from to cs r in
    let e : from ≡ left = elim w [ inl x ↦ omega (arith, x, l) | inr x ↦ omega (arith, x, l, k) ] in
    a cs before σ i h (subst (λ z. AreRules m.bank Never (shown m.table) z to cs) e r) v

pub tree_all : (m n : Machine) (from to left : ℕ) (before tree : Option ℕ) → IsTreeOf m n left to before tree → left ≤ from → IsTreeOf m n from to before tree
tree_all m n from to left before tree (inl h) l = inl (h.0, (let k = h.1 in omega (arith, k, l)))
tree_all m n from to left before tree (inr h) l = inr h

-- a note changes nothing of this

pub more_noted : (m n o : Machine) → AssumesMore m n → KeepsGoals n o → KeepsCourse n o → o.frames ≡ n.frames → KeepsAssumed n o → AssumesMore m o
more_noted m n o g k c f a = more_then m n o g (record {
  goals = k;
  course = c;
  frames = f;
  assumptions = subst (λ z. GoesOn n.assumptions.items z.items) (sym a.assumptions) (goes_on_same n.assumptions.items);
  newest = subst (λ z. GoesOn n.newest.items z.items) (sym a.newest) (goes_on_same n.newest.items);
})

pub tree_noted : (m n o : Machine) (from to : ℕ) (before tree : Option ℕ) → KeepsAssumed n o → IsTreeOf m n from to before tree → IsTreeOf m o from to before tree
tree_noted m n o from to before tree a h = subst (λ z. ((tree ≡ before) × (to ≤ from)) ⊎ ((i : ℕ) × (tree ≡ Some i) × (length m.newest.items ≤ i) × (i < length z.items))) (sym a.newest) h

pub lists_noted : (n o : Machine) → KeepsGoals n o → KeepsAssumed n o → lists_of n ≡ lists_of o
lists_noted n o k a = λ i. record {
  bank = sym k.known.bank i;
  table = sym k.known.table i;
  blocks = record { blocks = (sym k.known.scopes i).blocks.items; values = (sym k.known.scopes i).values.items };
  assumptions = (sym a.assumptions i).items;
  newest = (sym a.newest i).items;
  standings = (sym k.known.standings i).items;
}

pub assumes_noted : (m n o : Machine) (from to : ℕ) (p : Place) (tree : Option ℕ) → KeepsGoals n o → KeepsAssumed n o → Assumes m n from to p tree → Assumes m o from to p tree
assumes_noted m n o from to p tree k a h cs before σ i b r v = subst (λ l. HasAssumed l tree (clause_list (clauses_in σ p.values.types cs) ++ before)) (lists_noted n o k a) (h cs before σ i b r v)
