-- What is spelled as a proof, a certificate and a file is read again.
use Rattle.std.proofs.Common.{◌≡◌, ℕ, zero, suc, ◌+◌, ◌^◌, ◌<◌, ◌≤◌, Bool, true, false, cond, eqb, ltb, List, [], ◌∷◌, ◌++◌, length, Result, Ok, Err, refl, sym, ap, subst, ◌∙◌, append_assoc, arith}
use Rattle.std.specs.List.{flat_map, AllByRecursion}
use Rattle.std.proofs.lemmas.Bool.{le-ltb}
use Rattle.std.proofs.lemmas.List.{append-nil, length-append}
use Rattle.lp_calculus.specs.Types.{Ty}
use Rattle.lp_calculus.specs.Term.{Term}
use Rattle.lp_bytes.specs.declared.fault.Fault.{Fault}
use Rattle.lp_bytes.specs.declared.fault.Fault.TheVariants.{BadField, BadVersion}
use Rattle.lp_bytes.specs.Numbers.{spelled_two, spelled_four}
use Rattle.lp_bytes.specs.Spellable.{AreWhole}
use Rattle.lp_bytes.specs.Reading.{Left, left, Read, ◌>>=◌, byte_at, two_at, four_at, each_at, nested_at, file_of, magic_at, all_read}
use Rattle.lp_bytes.proofs.Again.{Runs, bind_runs, runs_as, next, byte_again, two_again, four_again, each_again, nested_again, magic_again, is_over, file_again}
use Rattle.lp_cert.specs.Arities.{Counts}
use Rattle.lp_cert.specs.Written.{Node, converted, trivial, pair, left_side, right_side, witness, general, assuming, equated, counted, back_to, focus_converted, focus_witness, side, premise, hit}
use Rattle.lp_cert.specs.Certified.{Certificate}
use Rattle.lp_cert.specs.Spelling.{spelled_type, spelled_term, spelled_node, spelled_certificate, spelled_certificates}
use Rattle.lp_cert.specs.Spellable.{IsType, IsTerm, IsNode, IsCertificate, AreCertificates}
use Rattle.lp_cert.specs.Reading.{as_read, types_at, term_at, terms_at, nodes_below, back_at, goal_node_at, side_at, focus_node_at, sorted_node_at, node_at, proof_at, certificate_at, version_at, certificates_of}
use Rattle.lp_cert.specs.declared.nodes.Sort.{Sort}
use Rattle.lp_cert.specs.declared.nodes.Sort.TheVariants as sorts
use Rattle.lp_cert.proofs.CertificatesFound.{made}
use Rattle.lp_cert.proofs.TypesAgain.{types_again}
use Rattle.lp_cert.proofs.TermsAgain.{read_as, term_again, terms_again}

-- ---- nodes

back_again : (d : Counts) (c : ℕ) (ts : List Ty) (s : Left) (rest : List ℕ) → IsNode d sorts.Proof (back_to c ts) → s.rest ≡ (spelled_four c ++ (spelled_two (length ts) ++ flat_map spelled_type ts)) ++ rest → Runs (back_at d s) (back_to c ts) rest
unfolding back_at
back_again d c ts s rest h e =
    let T = flat_map spelled_type ts in
    let R = spelled_two (length ts) ++ T in
    bind_runs (four_at s) (λ c. two_at c.1 >>= λ n. as_read (back_to c.0) (types_at d n.0 n.1)) c (R ++ rest) (back_to c ts) rest (four_again c s (R ++ rest) h.0 (next s (spelled_four c) R rest e))
    (λ t i. bind_runs (two_at t) (λ n. as_read (back_to c) (types_at d n.0 n.1)) (length ts) (T ++ rest) (back_to c ts) rest (two_again (length ts) t (T ++ rest) h.1 (next t (spelled_two (length ts)) T rest i))
    (λ u j. read_as (back_to c) (types_at d (length ts) u) ts rest (types_again d ts (length ts) u rest refl h.2 j)))

side_again : (b : ℕ) (s : Left) (rest : List ℕ) → b ≤ 1 → s.rest ≡ b ∷ rest → Runs (side_at s) b rest
unfolding side_at
side_again b s rest le e =
    bind_runs (byte_at s) (λ b. cond (ltb 1 b.0) (Err (BadField s.at)) (Ok b)) b rest b rest (byte_again b s rest e) (λ t i. (t, ap (λ x. cond x (Err (BadField s.at)) (Ok (b, t))) (le-ltb 1 b le), i))

-- a node behind its first byte
behind : (d : Counts) (sort : Sort) (tag : ℕ) (x : Node) (s : Left) (text rest : List ℕ) → s.rest ≡ (tag ∷ text) ++ rest → ((t : Left) → t.rest ≡ text ++ rest → Runs (sorted_node_at d sort s.at tag t) x rest) → Runs (node_at d sort s) x rest
unfolding node_at
behind d sort tag x s text rest e k = bind_runs (byte_at s) (λ b. sorted_node_at d sort s.at b.0 b.1) tag (text ++ rest) x rest (byte_again tag s (text ++ rest) e) k

node_again : (d : Counts) (sort : Sort) (x : Node) (s : Left) (rest : List ℕ) → IsNode d sort x → s.rest ≡ spelled_node x ++ rest → Runs (node_at d sort s) x rest
unfolding goal_node_at focus_node_at
node_again d sorts.Proof (converted t) s rest h e = behind d sorts.Proof 0 (converted t) s (spelled_term t) rest e (λ u i. read_as converted (term_at d u) t rest (term_again d t u rest h i))
node_again d sorts.Proof trivial s rest h e = behind d sorts.Proof 1 trivial s [] rest e (λ u i. (u, refl, i))
node_again d sorts.Proof pair s rest h e = behind d sorts.Proof 2 pair s [] rest e (λ u i. (u, refl, i))
node_again d sorts.Proof left_side s rest h e = behind d sorts.Proof 3 left_side s [] rest e (λ u i. (u, refl, i))
node_again d sorts.Proof right_side s rest h e = behind d sorts.Proof 4 right_side s [] rest e (λ u i. (u, refl, i))
node_again d sorts.Proof (witness t) s rest h e = behind d sorts.Proof 5 (witness t) s (spelled_term t) rest e (λ u i. read_as witness (term_at d u) t rest (term_again d t u rest h i))
node_again d sorts.Proof general s rest h e = behind d sorts.Proof 6 general s [] rest e (λ u i. (u, refl, i))
node_again d sorts.Proof assuming s rest h e = behind d sorts.Proof 7 assuming s [] rest e (λ u i. (u, refl, i))
node_again d sorts.Proof equated s rest h e = behind d sorts.Proof 8 equated s [] rest e (λ u i. (u, refl, i))
node_again d sorts.Proof counted s rest h e = behind d sorts.Proof 9 counted s [] rest e (λ u i. (u, refl, i))
node_again d sorts.Proof (back_to c ts) s rest h e =
    behind d sorts.Proof 10 (back_to c ts) s (spelled_four c ++ (spelled_two (length ts) ++ flat_map spelled_type ts)) rest e (λ u i. back_again d c ts u rest h i)
node_again d sorts.Proof (focus_converted t) s rest h e = absurd h
node_again d sorts.Proof (focus_witness t) s rest h e = absurd h
node_again d sorts.Proof (side b) s rest h e = absurd h
node_again d sorts.Proof premise s rest h e = absurd h
node_again d sorts.Proof hit s rest h e = absurd h
node_again d sorts.Focus (focus_converted t) s rest h e = behind d sorts.Focus 16 (focus_converted t) s (spelled_term t) rest e (λ u i. read_as focus_converted (term_at d u) t rest (term_again d t u rest h i))
node_again d sorts.Focus (focus_witness t) s rest h e = behind d sorts.Focus 17 (focus_witness t) s (spelled_term t) rest e (λ u i. read_as focus_witness (term_at d u) t rest (term_again d t u rest h i))
node_again d sorts.Focus (side b) s rest h e = behind d sorts.Focus 18 (side b) s (b ∷ []) rest e (λ u i. read_as side (side_at u) b rest (side_again b u rest h i))
node_again d sorts.Focus premise s rest h e = behind d sorts.Focus 19 premise s [] rest e (λ u i. (u, refl, i))
node_again d sorts.Focus hit s rest h e = behind d sorts.Focus 20 hit s [] rest e (λ u i. (u, refl, i))
node_again d sorts.Focus (converted t) s rest h e = absurd h
node_again d sorts.Focus trivial s rest h e = absurd h
node_again d sorts.Focus pair s rest h e = absurd h
node_again d sorts.Focus left_side s rest h e = absurd h
node_again d sorts.Focus right_side s rest h e = absurd h
node_again d sorts.Focus (witness t) s rest h e = absurd h
node_again d sorts.Focus general s rest h e = absurd h
node_again d sorts.Focus assuming s rest h e = absurd h
node_again d sorts.Focus equated s rest h e = absurd h
node_again d sorts.Focus counted s rest h e = absurd h
node_again d sorts.Focus (back_to c ts) s rest h e = absurd h

node_long : (x : Node) → 1 ≤ length (spelled_node x)
node_long (converted t) = omega arith
node_long trivial = omega arith
node_long pair = omega arith
node_long left_side = omega arith
node_long right_side = omega arith
node_long (witness t) = omega arith
node_long general = omega arith
node_long assuming = omega arith
node_long equated = omega arith
node_long counted = omega arith
node_long (back_to c ts) = omega arith
node_long (focus_converted t) = omega arith
node_long (focus_witness t) = omega arith
node_long (side b) = omega arith
node_long premise = omega arith
node_long hit = omega arith

nodes_long : (ns : List Node) → length ns ≤ length (flat_map spelled_node ns)
nodes_long [] = omega arith
nodes_long (n ∷ ns) = omega (arith, nodes_long ns, node_long n, length-append (spelled_node n) (flat_map spelled_node ns))

proof_again : (d : Counts) (ns : List Node) (s : Left) (rest : List ℕ) → AreWhole nodes_below (IsNode d) (sorts.Proof ∷ []) ns → s.rest ≡ flat_map spelled_node ns ++ rest → Runs (proof_at d s) ns rest
unfolding proof_at
proof_again d ns s rest h e =
    let total : length s.rest ≡ length (flat_map spelled_node ns) + length rest = ap length e ∙ length-append (flat_map spelled_node ns) rest in
    nested_again (node_at d) nodes_below spelled_node (IsNode d) (λ sort x u v i j. node_again d sort x u v i j) ns [] (suc (length s.rest)) (sorts.Proof ∷ []) s rest h (omega (arith, total, nodes_long ns)) e

-- ---- files

certificate_again : (d : Counts) (c : Certificate) (s : Left) (rest : List ℕ) → IsCertificate d c → s.rest ≡ spelled_certificate c ++ rest → Runs (certificate_at d s) c rest
unfolding certificate_at spelled_certificate
certificate_again d c s rest h e =
    let ts = c.instance.types in
    let vs = c.instance.values in
    let N = flat_map spelled_node c.nodes in
    let V = flat_map spelled_term vs ++ N in
    let K = spelled_four (length vs) ++ V in
    let T = flat_map spelled_type ts ++ K in
    bind_runs (four_at s) (λ m. types_at d m.0 m.1 >>= λ ts. four_at ts.1 >>= λ n. terms_at d n.0 n.1 >>= λ vs. proof_at d vs.1 >>= λ ns. Ok (made ts.0 vs.0 ns.0, ns.1)) (length ts) (T ++ rest) c rest
    (four_again (length ts) s (T ++ rest) h.few_types (next s (spelled_four (length ts)) T rest e))
    (λ a i. bind_runs (types_at d (length ts) a) (λ ts. four_at ts.1 >>= λ n. terms_at d n.0 n.1 >>= λ vs. proof_at d vs.1 >>= λ ns. Ok (made ts.0 vs.0 ns.0, ns.1)) ts (K ++ rest) c rest
    (types_again d ts (length ts) a (K ++ rest) refl h.types_fit (next a (flat_map spelled_type ts) K rest i))
    (λ b j. bind_runs (four_at b) (λ n. terms_at d n.0 n.1 >>= λ vs. proof_at d vs.1 >>= λ ns. Ok (made c.instance.types vs.0 ns.0, ns.1)) (length vs) (V ++ rest) c rest
    (four_again (length vs) b (V ++ rest) h.few_values (next b (spelled_four (length vs)) V rest j))
    (λ f k. bind_runs (terms_at d (length vs) f) (λ vs. proof_at d vs.1 >>= λ ns. Ok (made c.instance.types vs.0 ns.0, ns.1)) vs (N ++ rest) c rest
    (terms_again d vs (length vs) f (N ++ rest) refl h.values_fit (next f (flat_map spelled_term vs) N rest k))
    (λ g l. bind_runs (proof_at d g) (λ ns. Ok (made c.instance.types c.instance.values ns.0, ns.1)) c.nodes rest c rest (proof_again d c.nodes g rest h.nodes_fit l) (λ u m. (u, refl, m))))))

version_again : (s : Left) (rest : List ℕ) → s.rest ≡ spelled_two 1 ++ rest → (t : Left) × (version_at s ≡ Ok t) × (t.rest ≡ rest)
unfolding version_at
version_again s rest e =
    let p = two_again 1 s rest (omega arith) e in
    (p.0, ap (λ r. r >>= λ v. cond (eqb v.0 1) (Ok v.1) (Err (BadVersion v.0))) p.1, p.2)

pub certificates_only : (d : Counts) (bs : List ℕ) (cs : List Certificate) → length bs ≤ 16777216 → AreCertificates d cs → bs ≡ spelled_certificates cs → certificates_of d bs ≡ Ok cs
unfolding certificates_of spelled_certificates
certificates_only d bs cs le h e =
    let M = 76 ∷ 80 ∷ 67 ∷ 84 ∷ [] in
    let C = flat_map spelled_certificate cs in
    let N = spelled_four (length cs) ++ C in
    let m = magic_again M (left 0 bs) (spelled_two 1 ++ N) refl e in
    let v = version_again m.0 N m.2 in
    let n = four_again (length cs) v.0 C h.0 v.2 in
    let b = each_again (λ before. certificate_at d) spelled_certificate (IsCertificate d) (λ before x u w i j. certificate_again d x u w i j) cs [] n.0 [] h.1 (n.2 ∙ sym (append-nil C)) in
    ap (λ r. r >>= λ f. magic_at M f >>= λ m. version_at m >>= λ v. four_at v >>= λ n. each_at (λ before. certificate_at d) [] n.0 n.1 >>= λ xs. all_read xs.1 >>= λ over. Ok xs.0) (file_again bs le)
    ∙ ap (λ r. r >>= λ m. version_at m >>= λ v. four_at v >>= λ n. each_at (λ before. certificate_at d) [] n.0 n.1 >>= λ xs. all_read xs.1 >>= λ over. Ok xs.0) m.1
    ∙ ap (λ r. r >>= λ v. four_at v >>= λ n. each_at (λ before. certificate_at d) [] n.0 n.1 >>= λ xs. all_read xs.1 >>= λ over. Ok xs.0) v.1
    ∙ ap (λ r. r >>= λ n. each_at (λ before. certificate_at d) [] n.0 n.1 >>= λ xs. all_read xs.1 >>= λ over. Ok xs.0) n.1
    ∙ ap (λ r. r >>= λ xs. all_read xs.1 >>= λ over. Ok xs.0) b.1 ∙ ap (λ r. r >>= λ over. Ok cs) (is_over b.0 b.2)
