-- The tables of an image are those of its records as plain values.
use Rattle.std.proofs.Common.{◌≡◌, ℕ, suc, List, [], ◌∷◌, ◌++◌, map, length, refl, ap, ◌∙◌, append_assoc}
use Rattle.std.specs.Prelude.{◌&&◌, if◌then◌else◌}
use Rattle.std.specs.List.{flat_map}
use Rattle.std.specs.BTreeSet.{insert_key}
use Rattle.lp_code.specs.declared.record.Record.{Record}
use Rattle.lp_code.specs.Groups.{PlainKey, plain_key, key_cmp, same_key, is_of, with_head}
use Rattle.lp_code.specs.Groups as code
use Rattle.lp_bytes.specs.Numbers.{spelled_four}
use Rattle.lp_object.specs.Plain.{PlainRecord, plain_record}
use Rattle.lp_object.specs.Tables.{group_from, group_of, heads_onto, heads_of, keys_onto, keys_of, spelled_group, spelled_groups, spelled_tables}

heads_onto_are : (rs : List Record) (cs : List ℕ) → code.heads_onto cs rs ≡ heads_onto cs (map plain_record rs)
heads_onto_are [] cs = refl
heads_onto_are (r ∷ rs) cs = heads_onto_are rs (with_head r.program r.head cs)

pub heads_are : (rs : List Record) → code.heads rs ≡ heads_of (map plain_record rs)
heads_are rs = heads_onto_are rs []

keys_onto_are : (rs : List Record) (c : ℕ) (ks : List PlainKey) → code.keys_onto ks rs c ≡ keys_onto ks (map plain_record rs) c
keys_onto_are [] c ks = refl
keys_onto_are (r ∷ rs) c ks = keys_onto_are rs c (if is_of c r then insert_key key_cmp ks (plain_key r.key) else ks)

pub keys_are : (rs : List Record) (c : ℕ) → code.keys rs c ≡ keys_of (map plain_record rs) c
keys_are rs c = keys_onto_are rs c []

group_from_is : (rs : List Record) (n c : ℕ) (k : PlainKey) → code.group_from n rs c k ≡ group_from n (map plain_record rs) c k
group_from_is [] n c k = refl
group_from_is (r ∷ rs) n c k = ap (λ ns. if is_of c r && same_key k (plain_key r.key) then n ∷ ns else ns) (group_from_is rs (suc n) c k)

pub group_is : (rs : List Record) (c : ℕ) (k : PlainKey) → code.group rs c k ≡ group_of (map plain_record rs) c k
group_is rs c k = group_from_is rs 0 c k

-- what is written of the groups of a constant, and of all tables, one part behind the other

pub groups_put : (old a b d : List ℕ) (rs : List PlainRecord) (c n : ℕ) (ks : List PlainKey) → a ≡ old ++ spelled_four c → b ≡ a ++ spelled_four n → d ≡ b ++ flat_map (λ k. spelled_group (group_of rs c k) k) ks →
    ks ≡ keys_of rs c → n ≡ length ks → d ≡ old ++ spelled_groups rs c
unfolding spelled_groups
groups_put old a b d rs c n ks p q r s l =
    r ∙ ap (λ x. x ++ flat_map (λ k. spelled_group (group_of rs c k) k) ks) (q ∙ ap (λ x. x ++ spelled_four n) p) ∙
    append_assoc (old ++ spelled_four c) (spelled_four n) (flat_map (λ k. spelled_group (group_of rs c k) k) ks) ∙
    append_assoc old (spelled_four c) (spelled_four n ++ flat_map (λ k. spelled_group (group_of rs c k) k) ks) ∙
    ap (λ x. old ++ (spelled_four c ++ x)) (λ i. spelled_four ((l ∙ ap length s) i) ++ flat_map (λ k. spelled_group (group_of rs c k) k) (s i))

pub tables_put : (old b d : List ℕ) (rs : List PlainRecord) (n : ℕ) (cs : List ℕ) → b ≡ old ++ spelled_four n → d ≡ b ++ flat_map (spelled_groups rs) cs → cs ≡ heads_of rs → n ≡ length cs → d ≡ old ++ spelled_tables rs
unfolding spelled_tables
tables_put old b d rs n cs p q s l =
    q ∙ ap (λ x. x ++ flat_map (spelled_groups rs) cs) p ∙ append_assoc old (spelled_four n) (flat_map (spelled_groups rs) cs) ∙
    ap (λ x. old ++ x) (λ i. spelled_four ((l ∙ ap length s) i) ++ flat_map (spelled_groups rs) (s i))
