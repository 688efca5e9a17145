-- What numbers mean in a bank, they mean in each later one, where they stand in the first.
use Rattle.std.proofs.Common.{◌≡◌, ℕ, suc, ◌<◌, List, map, length, inl, inr, ap, ◌∙◌, subst, arith, Option, None, Some}
use Rattle.std.specs.Prelude.{All}
use Rattle.std.proofs.lemmas.List.Elements.{All-weaker}
use Rattle.lp_lemmas.proofs.Lists.{map_agree_on}
use Rattle.lp_calculus.specs.Term.{Term, Atom}
use Rattle.lp_term.specs.Nodes.{Nodes, Extends}
use Rattle.lp_model.specs.Flat.{Goal, Atomic, Cut, Either, Exists, Forall, Assume, Not, Goals, no_goals, goals, Clause, clause, Clauses, no_clauses, clauses}
use Rattle.lp_plain.specs.declared.head.HeadPair.{HeadPair}
use Rattle.lp_plain.specs.declared.head.Key.{Key}
use Rattle.lp_plain.specs.declared.table.Flat.{Flat}
use Rattle.lp_plain.specs.declared.table.Rule.{Rule}
use Rattle.lp_plain.specs.declared.table.Table.{Table}
use Rattle.lp_plain.specs.Heads.{IsKey, pair_in}
use Rattle.lp_plain.specs.Tables.{shown, IsHeadOf, IsGoal, IsListOf, AreGoals, IsRule, AreRules, Never}
use Rattle.lp_plain.specs.Within.{IsFlatIn, IsKeyIn, IsRuleIn, IsTableIn}
use Rattle.lp_plain.proofs.Within.{all_at}

module _ (b d : Nodes) (x : Extends b d) where
  pub key_later : (o : Option Key) (a : Option Atom) → IsKeyIn (length b.terms) o → IsKey b o a → IsKey d o a
  key_later None a i k = k
  key_later (Some (Key.Constant c)) a i k = k
  key_later (Some (Key.Number z)) a i k = k
  key_later (Some (Key.Text t)) a i k = (k.0, x.same_terms t.0 i ∙ k.1, k.2)
  key_later (Some (Key.Eigen l)) a i k = k

  pairs_later : (ps : List HeadPair) → All (λ p. p.term.0 < length b.terms) ps → map (pair_in d) ps ≡ map (pair_in b) ps
  pairs_later ps a = map_agree_on (λ (p : HeadPair). p.term.0 < length b.terms) (pair_in d) (pair_in b) (λ p i. ap (λ t. (p.place, t)) (x.same_terms p.term.0 i)) ps a

  head_later : (n : ℕ) (r : Rule) (h : Term) → IsRuleIn (length b.terms) r → IsHeadOf b n r h → IsHeadOf d n r h
  head_later n r h i k = record {
    head = x.same_terms r.head.0 i.head ∙ k.head;
    count = k.count;
    slots = k.slots;
    pairs = pairs_later r.pairs.items i.pairs ∙ k.pairs;
    key = key_later r.key _ i.key k.key;
  }

  pub table_later : (t : Table) → IsTableIn (length b.terms) t → IsTableIn (length d.terms) t
  table_later t i = record { goals = All-weaker (IsFlatIn (length b.terms)) (IsFlatIn (length d.terms)) flat t.goals.items i.goals; rules = All-weaker (IsRuleIn (length b.terms)) (IsRuleIn (length d.terms)) rule t.rules.items i.rules }
    where
      flat : (f : Flat) → IsFlatIn (length b.terms) f → IsFlatIn (length d.terms) f
      flat (Flat.Atom t) h = let m = x.more_terms in omega (arith, h, m)
      flat Flat.Cut h = tt
      flat (Flat.Either l r) h = tt
      flat (Flat.Some l) h = tt
      flat (Flat.All l) h = tt
      flat (Flat.Assume s l f) h = tt
      flat (Flat.Not l f) h = tt

      key : (o : Option Key) → IsKeyIn (length b.terms) o → IsKeyIn (length d.terms) o
      key None h = tt
      key (Some (Key.Constant c)) h = tt
      key (Some (Key.Number z)) h = tt
      key (Some (Key.Text t)) h = let m = x.more_terms in omega (arith, h, m)
      key (Some (Key.Eigen l)) h = tt

      rule : (r : Rule) → IsRuleIn (length b.terms) r → IsRuleIn (length d.terms) r
      rule r h =
          let m = x.more_terms in
          let l = h.head in
          record {
            head = omega (arith, l, m);
            pairs = All-weaker (λ (p : HeadPair). p.term.0 < length b.terms) (λ (p : HeadPair). p.term.0 < length d.terms) (λ p k. omega (arith, k, m)) r.pairs.items h.pairs;
            key = key r.key h.key;
          }

  -- the table's numbers
  module _ (t : Table) (i : IsTableIn (length b.terms) t) where
    listed_later : (n : ℕ) (gs : Goals) → ((from to : ℕ) → AreGoals b Never (shown t) from to gs → AreGoals d Never (shown t) from to gs) → IsListOf b t n gs → IsListOf d t n gs
    listed_later n gs f (inl h) = absurd h
    listed_later n gs f (inr h) = inr (h.0, h.1, f h.0.from h.0.to h.2)

    atom_later : (f : Flat) (u : Term) → IsFlatIn (length b.terms) f → IsGoal b Never (shown t) f (Atomic u) → IsGoal d Never (shown t) f (Atomic u)
    atom_later f u l h = (h.0, h.1, x.same_terms h.0.0 (subst (IsFlatIn (length b.terms)) h.1 l) ∙ h.2)

    mutual
      goal_later : (f : Flat) (g : Goal) → IsFlatIn (length b.terms) f → IsGoal b Never (shown t) f g → IsGoal d Never (shown t) f g
      goal_later f (Atomic u) l h = atom_later f u l h
      goal_later f Cut l h = h
      goal_later f (Either gs hs) l h = (h.0, h.1, h.2, listed_later h.0 gs (λ i j. goals_later i j gs) h.3, listed_later h.1 hs (λ i j. goals_later i j hs) h.4)
      goal_later f (Exists T gs) l h = (h.0, h.1, listed_later h.0 gs (λ i j. goals_later i j gs) h.2)
      goal_later f (Forall T gs) l h = (h.0, h.1, listed_later h.0 gs (λ i j. goals_later i j gs) h.2)
      goal_later f (Assume w cs gs) l h = (h.0, h.1, h.2, h.3, h.4, rules_later h.0.from h.0.to cs h.5, listed_later h.1 gs (λ i j. goals_later i j gs) h.6, h.7)
      goal_later f (Not w gs) l h = (h.0, h.1, h.2, h.3, listed_later h.0 gs (λ i j. goals_later i j gs) h.4, h.5)

      pub goals_later : (from to : ℕ) (gs : Goals) → AreGoals b Never (shown t) from to gs → AreGoals d Never (shown t) from to gs
      goals_later from to no_goals h = h
      goals_later from to (goals g gs) h = (h.0, h.1, goal_later h.0 g (all_at (IsFlatIn (length b.terms)) t.goals.items from h.0 h.1 i.goals) h.2, goals_later (suc from) to gs h.3)

      pub rule_later : (k : ℕ) (c : Clause) → IsRule b Never (shown t) k c → IsRule d Never (shown t) k c
      rule_later k (clause n vs h body) r =
          (r.0, r.1, r.2, head_later (length vs) r.0 h (all_at (IsRuleIn (length b.terms)) t.rules.items k r.0 r.1 i.rules) r.3, listed_later r.0.body body (λ i j. goals_later i j body) r.4)

      pub rules_later : (from to : ℕ) (cs : Clauses) → AreRules b Never (shown t) from to cs → AreRules d Never (shown t) from to cs
      rules_later from to no_clauses h = h
      rules_later from to (clauses c cs) h = (rule_later from c h.0, rules_later (suc from) to cs h.1)

    pub list_later : (n : ℕ) (gs : Goals) → IsListOf b t n gs → IsListOf d t n gs
    list_later n gs = listed_later n gs (λ i j. goals_later i j gs)
