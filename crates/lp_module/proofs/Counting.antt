-- The arguments of heads, node by node.
use Rattle.std.proofs.Common.{◌≡◌, ℕ, ◌+◌, ◌<◌, ◌≤◌, List, [], ◌∷◌, ◌++◌, length, drop, get_or, sym, ap, subst, ◌∙◌, arith, inl, inr}
use Rattle.std.specs.Prelude.{◌⊎◌, All, Contains}
use Rattle.std.proofs.lemmas.List.{drop_more, drop_all, get_or_past}
use Rattle.std.proofs.lemmas.List.Elements.{Contains-append_left, Contains-push, All-contains}
use Rattle.std.proofs.lemmas.Bool.{cases_lt}
use Rattle.lp_syntax.specs.declared.text.RawNode.{RawNode}
use Rattle.lp_syntax.specs.declared.text.RawTerm.{RawTerm}
use Rattle.lp_module.specs.Arguments.{own_count, counts_behind, HasManyArguments}

kept_behind : (before : List ℕ) (ns : List RawNode) (k : ℕ) → Contains before k → Contains (counts_behind before ns) k
kept_behind before [] k c = c
kept_behind before (n ∷ ns) k c = kept_behind (before ++ own_count before n ∷ []) ns k (Contains-append_left before (own_count before n ∷ []) k c)

-- one more node
from_here : (counts : List ℕ) (nodes : List RawNode) (i : ℕ) (node : RawNode) → i < length nodes → node ≡ get_or nodes i node → counts_behind counts (drop i nodes) ≡ counts_behind (counts ++ own_count counts node ∷ []) (drop (i + 1) nodes)
from_here counts nodes i node h at = ap (counts_behind counts) (drop_more nodes i node h ∙ ap (λ n. n ∷ drop (i + 1) nodes) (sym at))

pub node_more : (counts counts_then : List ℕ) (nodes : List RawNode) (i : ℕ) (node : RawNode) (own : ℕ) (all : List ℕ) → i < length nodes → node ≡ get_or nodes i node → own ≡ own_count counts node → counts_then ≡ counts ++ own ∷ [] →
    counts_behind counts (drop i nodes) ≡ all → counts_behind counts_then (drop (i + 1) nodes) ≡ all
node_more counts counts_then nodes i node own all h at is pushed e =
    ap (λ l. counts_behind l (drop (i + 1) nodes)) (pushed ∙ ap (λ n. counts ++ n ∷ []) is) ∙ sym (from_here counts nodes i node h at) ∙ e

pub is_many : (counts : List ℕ) (raw : RawTerm) (i : ℕ) (node : RawNode) (own : ℕ) → i < length raw.nodes.items → node ≡ get_or raw.nodes.items i node → own ≡ own_count counts node → 255 < own → counts_behind counts (drop i raw.nodes.items) ≡ counts_behind [] raw.nodes.items → HasManyArguments raw
is_many counts raw i node own h at is many e = (
  own,
  subst (λ l. Contains l own) (sym (from_here counts raw.nodes.items i node h at) ∙ e)
      (kept_behind (counts ++ own_count counts node ∷ []) (drop (i + 1) raw.nodes.items) own (subst (λ n. Contains (counts ++ n ∷ []) own) is (Contains-push counts own))),
  many,
)

pub is_few : (counts : List ℕ) (raw : RawTerm) (i : ℕ) → length raw.nodes.items ≤ i → All (λ k. k ≤ 255) counts → counts_behind counts (drop i raw.nodes.items) ≡ counts_behind [] raw.nodes.items → HasManyArguments raw → ⊥
is_few counts raw i h few e (k, c, many) =
    let here : counts ≡ counts_behind [] raw.nodes.items = sym (ap (counts_behind counts) (drop_all i raw.nodes.items h)) ∙ e in
    let b = All-contains (λ n. n ≤ 255) counts k few (subst (λ l. Contains l k) (sym here) c) in
    omega (arith, b, many)

-- a count that is read is small
pub small_count : (counts : List ℕ) (f : ℕ) → All (λ k. k ≤ 255) counts → get_or counts f 0 ≤ 255
small_count counts f few = by (cases_lt f (length counts))
  where
    by : (f < length counts) ⊎ (length counts ≤ f) → get_or counts f 0 ≤ 255
    by (inl h) = few f 0 h
    by (inr h) = let z = get_or_past counts f 0 h in omega (arith, z)
