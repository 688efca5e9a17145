-- A clause that is written in a place has a head by which it is found there, once it is assumed.
use Rattle.std.proofs.Common.{◌≡◌, ℕ, ◌+◌, ◌-◌, ◌<◌, ◌≤◌, Bool, true, refl, sym, ap, ◌∙◌, subst, arith, Bor, List, Option, None, Some}
use Rattle.std.specs.Prelude.{IfSome, length, slice_get}
use Rattle.lp_calculus.specs.Term.{Term, index, atom, abs, app, constant, integer, text, eigen, logic, param}
use Rattle.lp_term.specs.Node.{TermBelow}
use Rattle.lp_term.specs.Nodes.{Nodes, node_tree, tree}
use Rattle.lp_term.specs.Shapes.{term_shape}
use Rattle.lp_term.specs.declared.node.TermId.{TermId}
use Rattle.lp_term.specs.declared.node.TypeId.{TypeId}
use Rattle.lp_term.specs.declared.node.TermNode.{TermNode}
use Rattle.lp_pattern.proofs.Names.{kind, kind_of, node_kind}
use Rattle.lp_plain.specs.declared.frame.Place.{Place}
use Rattle.lp_plain.specs.declared.head.Head.{Head}
use Rattle.lp_plain.specs.declared.machine.Machine.{Machine}
use Rattle.lp_plain.specs.declared.table.Flat.{Flat}
use Rattle.lp_plain.specs.declared.table.Rule.{Rule}
use Rattle.lp_plain.specs.declared.table.Span.{Span}
use Rattle.lp_plain.specs.Apart.{apart}
use Rattle.lp_plain.specs.Assuming.{AssumesMore}
use Rattle.lp_plain.specs.AtRunTime.{IsWrittenFlat}
use Rattle.lp_plain.specs.Scopes.{Holds, blocks_of}
use Rattle.lp_plain.specs.Tables.{shown}
use Rattle.lp_plain.specs.WrittenSearch.{IsHeadless}
use Rattle.lp_plain.specs.WrittenTable.{IsWrittenHead, IsWrittenIn, WrittenFlat, WrittenRule, WrittenRules, a_rule}
use Rattle.lp_plain.proofs.TableWritten.{assumed_of}
use Rattle.lp_plain.proofs.WrittenAssumed.{rule_within}
use Rattle.lp_plain.proofs.WrittenParts.{in_by}

-- a head is of the kind of a constant or of an index
head_kind : (ar : ℕ → ℕ) (k n : ℕ) (bs : List Bool) (t : Term) → IsWrittenHead ar k n bs t → (kind t ≡ 0 → ⊥) → (kind t ≡ 1 → ⊥) → ⊥
head_kind ar k n bs (index i) h e f = e refl
head_kind ar k n bs (atom (constant c ts)) h e f = f refl
head_kind ar k n bs (atom (integer z)) h e f = h
head_kind ar k n bs (atom (text s)) h e f = h
head_kind ar k n bs (atom (eigen j)) h e f = h
head_kind ar k n bs (atom (logic x l)) h e f = h
head_kind ar k n bs (atom (param j t)) h e f = h
head_kind ar k n bs (abs b) h e f = h
head_kind ar k n bs (app t u) h e f = h

-- what kind the node of a term is of
read_kind : (b : Nodes) (n m : ℕ) (x : TermNode) (t : Term) → TermBelow n m (term_shape x) → node_tree b (term_shape x) ≡ t → kind t ≡ node_kind x
read_kind b n m x t l e = ap kind (sym e) ∙ kind_of b n m x l

index_kind : (x : TermNode) → node_kind x ≡ 0 → (i : ℕ) × (x ≡ TermNode.Index i)
index_kind (TermNode.Index i) e = (i, refl)
index_kind (TermNode.Const c ids) e = absurd (cc)
index_kind (TermNode.Int z) e = absurd (cc)
index_kind (TermNode.Text s) e = absurd (cc)
index_kind (TermNode.Eigen k) e = absurd (cc)
index_kind (TermNode.Logic x l) e = absurd (cc)
index_kind (TermNode.Param k t) e = absurd (cc)
index_kind (TermNode.Abs b) e = absurd (cc)
index_kind (TermNode.App f ids) e = absurd (cc)

-- the value of a binder is an eigenconstant, and its node is one
pub eigen_node : (b : Nodes) (n m : ℕ) (x : TermNode) (t : Term) (k : ℕ) → TermBelow n m (term_shape x) → node_tree b (term_shape x) ≡ t → t ≡ atom (eigen k) → ((j : ℕ) → x ≡ TermNode.Eigen j → ⊥) → ⊥
eigen_node b n m x t k l e q other = go x (sym (read_kind b n m x t l e) ∙ ap kind q) other
  where
    go : (y : TermNode) → node_kind y ≡ 4 → ((j : ℕ) → y ≡ TermNode.Eigen j → ⊥) → ⊥
    go (TermNode.Index i) h f = cc
    go (TermNode.Const c ids) h f = cc
    go (TermNode.Int z) h f = cc
    go (TermNode.Text s) h f = cc
    go (TermNode.Eigen j) h f = f j refl
    go (TermNode.Logic x l) h f = cc
    go (TermNode.Param j u) h f = cc
    go (TermNode.Abs u) h f = cc
    go (TermNode.App u ids) h f = cc

module _ (m : Machine) (ar : ℕ → ℕ) (p : Place) (rule : ℕ) (w : IsWrittenIn m.bank (blocks_of m.scopes) p.values.scope (λ k bs. WrittenRule m.bank (shown m.table) ar k bs rule)) where
  pub rule_there : slice_get m.table.rules.items rule ≡ None → ⊥
  rule_there e = go w.is
    where
      go : WrittenRule m.bank (shown m.table) ar w.type_vars w.binders rule → ⊥
      go (a_rule r q h ps b) = let z : None ≡ Some r = sym e ∙ q in cc

  module _ (got : Rule) (there : slice_get m.table.rules.items rule ≡ Some got) where
    head_written : IsWrittenHead ar w.type_vars (length got.slots.items) w.binders (tree m.bank got.head.0)
    head_written = go w.is
      where
        go : WrittenRule m.bank (shown m.table) ar w.type_vars w.binders rule → IsWrittenHead ar w.type_vars (length got.slots.items) w.binders (tree m.bank got.head.0)
        go (a_rule r q h ps b) = let same : r ≡ got = (let z : Some r ≡ Some got = sym q ∙ there in cc) in subst (λ (x : Rule). IsWrittenHead ar w.type_vars (length x.slots.items) w.binders (tree m.bank x.head.0)) same h

    index_written : (at : ℕ) → index at ≡ tree m.bank got.head.0 → IsWrittenHead ar w.type_vars (length got.slots.items) w.binders (index at)
    index_written at e = subst (IsWrittenHead ar w.type_vars (length got.slots.items) w.binders) (sym e) head_written

    -- an index at the head is none of the clause's own variables
    pub behind_own : (at : ℕ) → index at ≡ tree m.bank got.head.0 → length got.slots.items ≤ at
    behind_own at e = (index_written at e).0

    -- and the value of the variable is an eigenconstant
    pub outer_bound : (at outer : ℕ) → index at ≡ tree m.bank got.head.0 → at ≡ length got.slots.items + outer →
        ((vs : List TermId) (v : TermId) (k : ℕ) → Holds m.scopes.values.items m.scopes.blocks.items p.values.scope vs → slice_get vs outer ≡ Some v → tree m.bank v.0 ≡ atom (eigen k) → ⊥) → ⊥
    outer_bound at outer e l f =
        let h = index_written at e in
        let d : at - length got.slots.items ≡ outer = omega (arith, l) in
        let v = w.have.eigens outer (subst (λ i. slice_get w.binders i ≡ Some true) d h.1) in
        f w.values v.0 v.1 w.scope_holds v.2 v.3

    -- no other node is at the head
    pub no_other_head : (n k : ℕ) (x : TermNode) → TermBelow n k (term_shape x) → node_tree m.bank (term_shape x) ≡ tree m.bank got.head.0 → (node_kind x ≡ 0 → ⊥) → (node_kind x ≡ 1 → ⊥) → ⊥
    no_other_head n k x l e f g =
        let q = read_kind m.bank n k x (tree m.bank got.head.0) l e in
        head_kind ar w.type_vars (length got.slots.items) w.binders (tree m.bank got.head.0) head_written (λ z. f (sym q ∙ z)) (λ z. g (sym q ∙ z))

pub no_index : (x : TermNode) → ((i : ℕ) → x ≡ TermNode.Index i → ⊥) → node_kind x ≡ 0 → ⊥
no_index x other e = let i = index_kind x e in other i.0 i.1

pub no_constant : (x : TermNode) → ((c : ℕ) (ids : Bor (List TypeId)) → x ≡ TermNode.Const c ids → ⊥) → node_kind x ≡ 1 → ⊥
no_constant (TermNode.Index i) other e = cc
no_constant (TermNode.Const c ids) other e = other c ids refl
no_constant (TermNode.Int z) other e = cc
no_constant (TermNode.Text s) other e = cc
no_constant (TermNode.Eigen k) other e = cc
no_constant (TermNode.Logic x l) other e = cc
no_constant (TermNode.Param k t) other e = cc
no_constant (TermNode.Abs b) other e = cc
no_constant (TermNode.App f ids) other e = cc

-- what holds of a head holds of it in another way, too
pub each_head : (o : Option Head) (P Q : Head → Type 0) → ((h : Head) → P h → Q h) → IfSome o P → IfSome o Q
each_head None P Q f h = h
each_head (Some x) P Q f h = f x h

-- one of the clauses has no head in a search that has assumed those behind it
pub headless_one : (m n : Machine) (s : Span) (i : ℕ) (p : Place) → AssumesMore m n → s.from ≤ i → i < s.to → ((ar : ℕ → ℕ) → IsWrittenIn n.bank (blocks_of n.scopes) p.values.scope (λ k bs. WrittenRule n.bank (shown n.table) ar k bs i) → ⊥) → IsHeadless m p s
headless_one m n s i p g l u f ar w =
    f ar (subst (λ b. IsWrittenIn b (blocks_of n.scopes) p.values.scope (λ k bs. WrittenRule b (shown n.table) ar k bs i)) (sym g.goals.known.bank)
    (subst (λ t. IsWrittenIn m.bank (blocks_of n.scopes) p.values.scope (λ k bs. WrittenRule m.bank (shown t) ar k bs i)) (sym g.goals.known.table)
    (subst (λ z. IsWrittenIn m.bank (blocks_of z) p.values.scope (λ k bs. WrittenRule m.bank (shown m.table) ar k bs i)) (sym g.goals.known.scopes)
    (in_by m.bank (blocks_of m.scopes) p.values.scope (λ k bs. WrittenRules m.bank (shown m.table) ar k bs s.from s.to) (λ k bs. WrittenRule m.bank (shown m.table) ar k bs i)
    (λ k bs h. (rule_within m.bank (shown m.table) ar k bs s.from s.to i h l u).1) w))))

-- a goal of the table that is written assumes no such clauses
pub not_headless : (m c : Machine) (p : Place) (flat : Flat) (s : Span) (l v : ℕ) → c ≡ apart m → flat ≡ Flat.Assume s l v → (ar : ℕ → ℕ) → IsWrittenFlat m ar p flat → IsHeadless c p s → ⊥
not_headless m c p flat s l v e q ar w h =
    (subst (λ z. IsHeadless z p s) e h) ar
    (in_by m.bank (blocks_of m.scopes) p.values.scope (λ k bs. WrittenFlat m.bank (shown m.table) ar k bs flat) (λ k bs. WrittenRules m.bank (shown m.table) ar k bs s.from s.to)
    (λ k bs f. (assumed_of m.bank (shown m.table) ar k f s l v q).0) w)
