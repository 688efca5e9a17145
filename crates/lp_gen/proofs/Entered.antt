-- The own variables of a record, one after the other.
use Rattle.std.proofs.Common.{◌≡◌, ◌∙◌, ◌<◌, ◌≤◌, ℕ, zero, suc, ◌+◌, ◌-◌, List, [], ◌∷◌, ◌++◌, append_assoc, drop, length, get_or, ap, refl, sym, arith}
use Rattle.std.proofs.lemmas.List.{append-nil, map-append, drop_more, length-append}
use Rattle.lp_calculus.specs.Types.{Ty}
use Rattle.lp_term.specs.Nodes.{Nodes, type_tree}
use Rattle.lp_term.specs.declared.node.TypeId.{TypeId}
use Rattle.lp_gen.specs.declared.emitter.Emitter.{Emitter}
use Rattle.lp_gen.specs.declared.environment.Environment.{Environment}
use Rattle.lp_gen.specs.Steps.{Seen, Around}
use Rattle.lp_gen.specs.inner.Listing.{around_of}
use Rattle.lp_gen.specs.inner.Bodies.{pushed}
use Rattle.lp_gen.specs.inner.Entering.{unmade, clause_own, query_own, behind, types_at, QueryEntered}
use Rattle.lp_gen.proofs.TypeWorks.{map_length}

pub behind_none : (a : Around) → a ≡ behind a []
behind_none a = λ i. record { own = sym (append-nil a.own) i; base = a.base; captured = a.captured }

behind_push : (a : Around) (vs : List Seen) (v : Seen) → pushed (behind a vs) v ≡ behind a (vs ++ v ∷ [])
behind_push a vs v = λ i. record { own = append_assoc a.own vs (v ∷ []) i; base = a.base; captured = a.captured }

none_left : (n : ℕ) (ids : List TypeId) → length ids ≤ n → drop n ids ≡ []
none_left zero [] le = refl
none_left zero (x ∷ xs) le = absurd (omega (arith, le))
none_left (suc n) [] le = refl
none_left (suc n) (x ∷ xs) le = none_left n xs (omega (arith, le))

-- the variables from a place on
abbrev pub from_place : Nodes → (first place : ℕ) → List TypeId → List Seen
from_place b first place ids = clause_own (first + place) (types_at b (drop place ids))

pub none_entered : (b : Nodes) (env : Environment) (first count n : ℕ) (ids : List TypeId) → count ≡ length ids → n ≡ 0 → around_of b env ≡ behind
    (around_of b env) (from_place b first (count - n) ids)
none_entered b env first count n ids many none =
    let z : count - n ≡ count = omega (arith, none) in
    behind_none (around_of b env)
    ∙ ap (behind (around_of b env)) (sym (ap (λ p. from_place b first p ids) z ∙ ap (λ l. clause_own (first + count) (types_at b l)) (none_left count ids (omega (arith, many)))))

pub one_entered : (b : Nodes) (a c d : Around) (first count n place register : ℕ) (ids : List TypeId) (x : TypeId) → c ≡ behind a
    (from_place b first (count - n) ids) → n < count → count ≡ length ids → place ≡ count - 1 - n →
    register ≡ first + place → x ≡ get_or ids place x → d ≡ pushed c (unmade register (type_tree b x.0)) → d ≡ behind a (from_place b first (count - (n + 1)) ids)
one_entered b a c d first count n place register ids x before low many at is here e =
    let low_place : place < length ids = omega (arith, at, low, many) in
    let now : count - (n + 1) ≡ place = omega (arith, at, low) in
    let last : count - n ≡ place + 1 = omega (arith, at, low) in
    let sum : first + (place + 1) ≡ first + place + 1 = omega arith in
    e ∙ ap (λ y. pushed y (unmade register (type_tree b x.0))) before ∙ behind_push a (from_place b first (count - n) ids) (unmade register (type_tree b x.0))
    ∙ ap (behind a) ((λ i. clause_own (first + last i) (types_at b (drop (last i) ids)) ++ unmade (is i) (type_tree b x.0) ∷ [])
    ∙ (λ i. clause_own (sum i) (types_at b (drop (place + 1) ids)) ++ unmade (first + place) (type_tree b x.0) ∷ [])
    ∙ ap (λ l. clause_own (first + place) (types_at b l)) (sym (drop_more ids place x low_place ∙ ap (λ y. y ∷ drop (place + 1) ids) (sym here))))
    ∙ ap (λ p. behind a (from_place b first p ids)) (sym now)

pub all_entered : (b : Nodes) (first : ℕ) (ids : List TypeId) → from_place b first 0 ids ≡ clause_own first (types_at b ids)
all_entered b first ids = let z : first + 0 ≡ first = omega arith in ap (λ r. clause_own r (types_at b ids)) z

-- those of a query

query_last : (r : ℕ) (Ts : List Ty) (T : Ty) → query_own r (Ts ++ T ∷ []) ≡ query_own r Ts ++ unmade (r + length Ts) T ∷ []
query_last r [] T = (let z : r ≡ r + 0 = omega arith in ap (λ k. unmade k T ∷ []) z)
query_last r (U ∷ Us) T = ap (λ l. unmade r U ∷ l) (query_last (r + 1) Us T ∙ (let z : r + 1 + length Us ≡ r + suc (length Us) = omega arith in ap (λ k. query_own (r + 1) Us ++ unmade k T ∷ []) z))

pub no_query : (e : Emitter) (env : Environment) → QueryEntered e e env env []
no_query e env = record { code_stays = refl; types_stay = refl; registers_are = omega arith; around = λ b. behind_none (around_of b env) }

pub query_more : (e mid e' : Emitter) (env here env' : Environment) (ids : List TypeId) (x : TypeId) (register : ℕ) → QueryEntered e mid env here ids
    → register ≡ mid.registers → e'.code.items ≡ mid.code.items → e'.types ≡ mid.types →
    e'.registers ≡ mid.registers + 1 → ((b : Nodes) → around_of b env' ≡ pushed (around_of b here) (unmade register (type_tree b x.0))) → QueryEntered e e' env env' (ids ++ x ∷ [])
query_more e mid e' env here env' ids x register w is code types registers around =
    let many = length-append ids (x ∷ []) in
    let one : length (x ∷ []) ≡ 1 = refl in
    let before = w.registers_are in
    record {
      code_stays = code ∙ w.code_stays;
      types_stay = types ∙ w.types_stay;
      registers_are = omega (arith, registers, before, many, one);
      around = λ b.
          let T = type_tree b x.0 in
          let size = map_length (λ (t : TypeId). type_tree b t.0) ids in
          let at : register ≡ e.registers + length (types_at b ids) = omega (arith, is, before, size) in
          around b ∙ ap (λ y. pushed y (unmade register T)) (w.around b) ∙ behind_push (around_of b env) (query_own e.registers (types_at b ids)) (unmade register T)
          ∙ ap (behind (around_of b env)) (ap (λ r. query_own e.registers (types_at b ids) ++ unmade r T ∷ []) at ∙ sym (query_last e.registers (types_at b ids) T)
          ∙ ap (query_own e.registers) (sym (map-append (λ (t : TypeId). type_tree b t.0) ids (x ∷ []))));
    }
