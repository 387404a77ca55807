-- The first build reads its old rows in a newer footer.
use Prim.Native.Nat.{ℕ, zero, suc, ◌+◌, ◌-◌, ◌/◌, ◌≤◌}
use mathlib.Core.List.{List, [], ◌∷◌, ◌++◌, map, map-append}
use mathlib.Core.Bool.{Bool, true, false}
use mathlib.Core.Path.{◌≡◌, refl, sym, ap, ◌∙◌, subst}
use native.Mathlib.Omega.{arith}
use borrow.Author.Tests.{ne_eqb, le-leb}
use lib.ListN.{length, take, drop, length-map}
use lib.Dec.{leb}
use Rattle.numbers.specs.Numbers.{little}
use Rattle.numbers.specs.Rows.{flat, over}
use Rattle.numbers.proofs.Choice.{both_true}
use Rattle.wire.specs.declared.Fault.{Fault}
use Rattle.wire.specs.Reading.{Step, found, refused, Rule, in_item, ◌>>=◌, ◌>>◌, give, number, tested, after, mapped}
use Rattle.wire.proofs.Laws.{never}
use Rattle.frames.specs.declared.ListHead.{ListHead}
use Rattle.frames.specs.Frames.{closed, closed_by, record_head, record_body, record_of, within, items, list_body, list_head, list_of, at_most}
use Rattle.envelope.specs.Envelope.{Versions, version_of, strict_of, checksum_of}
use Rattle.envelope.specs.Features.{features}
use Rattle.header.specs.Tables.{header_of}
use Rattle.outcome.specs.Outcome.{is_accepted}
use Rattle.header.specs.Beside.{Beside, read}
use Rattle.rows.specs.declared.Link.{Link}
use Rattle.rows.specs.Words.{most_clusters, cluster_width, link_width, cluster_words}
use Rattle.rows.specs.declared.ClusterRow.{ClusterRow}
use Rattle.links.specs.Links.{link, link_list}
use Rattle.clusters.specs.Clusters.{list_checksum, starts_at, entry_count, cluster, entries_of, cluster_list}
use Rattle.footer.specs.Footer.{Footer, this_build, first_build, carries, names, empty, payload, footer_by_build, footer_of}
use Rattle.footer.specs.Tables.{beside_by_build, footer_beside, outcome_of, cluster_table, metadata_table}
use Rattle.footer.specs.Answer.{FooterAnswer}
use Rattle.tree.proofs.Simple.{after_found}
use Rattle.tree.proofs.Envelope.{Opened, opens, was_opened}
use Rattle.tree.proofs.FooterCalls.{footer_left}
use Rattle.tree.proofs.Accepted.{footer_read_lem}
use Rattle.forward.specs.OldBuild.{old_cluster, old_payload, old_footer_of, FirstBuildIsOld, old_row, old_rows, OldBuildReads, old_width, old_words, old_table, old_room, old_answer, old_written, OldAnswered, without_checksums, OldBuildCalls}
use Rattle.header.proofs.Besides.{both_read, both_read_is}
use Rattle.std.specs.Prelude.{Ok, Err}

-- the first build's rules are the old ones
pub first_build_is_old : FirstBuildIsOld
unfolding footer_by_build payload cluster list_checksum old_footer_of old_payload old_cluster
first_build_is_old checksum file e = refl

-- what is found where spare bytes are skipped

skipped : {A : Type 0} (mark : Fault → Fault) (stop : ℕ) (x : Step A) (a : A) (q : ℕ) → closed_by mark false stop x ≡ found a q
    → (p : ℕ) × (x ≡ found a p) × (stop ≡ q)
skipped mark stop (found b p) a q e = let same : b ≡ a = cc in let place : stop ≡ q = cc in (p, ap (λ y. found y p) same, place)
skipped mark stop (refused f) a q e = never e

in_item_lem : {A : Type 0} (head i : ℕ) (x : Step A) (a : A) (q : ℕ) → within head i x ≡ found a q → x ≡ found a q
in_item_lem head i (found b p) a q e = e
in_item_lem head i (refused f) a q e = never e

-- two rules that start alike: what holds of the second is shown of what follows
alike : {A B C : Type 0} (P : Step C → Type 0) (k : A → Rule B) (k' : A → Rule C) (s : List ℕ) (x : Step A) {b : B} {q : ℕ}
    → ((a : A) (p : ℕ) → k a s p ≡ found b q → P (k' a s p)) → after k s x ≡ found b q → P (after k' s x)
alike P k k' s (found a p) then e = then a p e
alike P k k' s (refused f) then e = never e

-- clusters

-- a cluster is found in its old row, wherever it ends
abbrev Old : ClusterRow → Step ClusterRow → Type 0
Old x y = (p : ℕ) × (y ≡ found (old_row x) p)

cluster_old : (file sum : ℕ) (s : List ℕ) (at : ℕ) (x : ClusterRow) (q : ℕ) → cluster true file sum s at ≡ found x q → Old x (cluster false file sum s at)
unfolding cluster list_checksum
cluster_old file sum s at x q =
    let made : ℕ → ℕ → Link → ℕ → ClusterRow = λ first word l c. record { first_entry = first; entries = word; page_list = l; checksum = c } in
    let third : Bool → ℕ → ℕ → Link → Rule ClusterRow = λ carried first word l. list_checksum carried >>= (λ c. give (made first word l c)) in
    let second : Bool → ℕ → ℕ → Rule ClusterRow = λ carried first word. link file >>= third carried first word in
    let first' : Bool → ℕ → Rule ClusterRow = λ carried first. tested 8 (entry_count sum) >>= second carried first in
    alike (Old x) (first' true) (first' false) s (tested 8 (starts_at sum) s at) λ first p₁.
    alike (Old x) (second true first) (second false first) s (tested 8 (entry_count sum) s p₁) λ word p₂.
    alike (Old x) (third true first word) (third false first word) s (link file s p₂) λ l p₃ e.
    let (c, p₄, _, k) = after_found (λ c. give (made first word l c)) s (number 4 s p₃) x q e in
    let read : found (made first word l c) p₄ ≡ found x q = k in
    let same : made first word l c ≡ x = cc in
    (p₃, ap (λ (r : ClusterRow). found (old_row r) p₃) same)

record_old : (file sum : ℕ) (s : List ℕ) (at : ℕ) (x : ClusterRow) (q : ℕ) → record_of false (cluster true file sum) s at ≡ found x q
    → record_of false (cluster false file sum) s at ≡ found (old_row x) q
unfolding record_of
record_old file sum s at x q e = by (record_head s at) e
  where
    by : (h : Step ℕ) → record_body false (cluster true file sum) s h ≡ found x q → record_body false (cluster false file sum) s h ≡ found (old_row x) q
    by (found start stop) e =
        let (p, inner, end) = skipped (λ f. f) stop (cluster true file sum (take stop s) start) x q e in
        let (p', old) = cluster_old file sum (take stop s) start x p inner in
        ap (closed false stop) old ∙ ap (found (old_row x)) end
    by (refused f) e = never e

entries_old : (done : List ClusterRow) → entries_of (map old_row done) ≡ entries_of done
unfolding entries_of
entries_old [] = refl
entries_old (c ∷ cs) = ap (λ (n : ℕ). c.entries + n) (entries_old cs)

-- the rule of a cluster record after those before it
abbrev item : Bool → ℕ → List ClusterRow → Rule ClusterRow
item carried file before = record_of false (cluster carried file (entries_of before))

-- one item, and those after it
items_more : {A : Type 0} (head n : ℕ) (r : List A → Rule A) (done : List A) (s : List ℕ) (at : ℕ) {x : A} {p : ℕ} {y : Step (List A)}
    → r done s at ≡ found x p → items head r n (done ++ (x ∷ [])) s p ≡ y → items head r (suc n) done s at ≡ y
unfolding items
items_more head n r done s at e rest = ap (λ (z : Step _). after (λ x. items head r n (done ++ (x ∷ []))) s (within head (length done) z)) e ∙ rest

items_old : (file head n : ℕ) (done : List ClusterRow) (s : List ℕ) (at : ℕ) (rows : List ClusterRow) (q : ℕ)
    → items head (item true file) n done s at ≡ found rows q → items head (item false file) n (map old_row done) s at ≡ found (map old_row rows) q
unfolding items
items_old file head zero done s at rows q e = ap (mapped (map old_row)) e
items_old file head (suc n) done s at rows q e =
    let (x, p, e₁, e₂) = after_found (λ x. items head (item true file) n (done ++ (x ∷ []))) s (within head (length done) (item true file done s at)) rows q e in
    let this : item false file (map old_row done) s at ≡ found (old_row x) p = ap (λ (sum : ℕ). record_of false (cluster false file sum) s at) (entries_old done) ∙ (record_old file (entries_of done) s at x p (in_item_lem head (length done) (item true file done s at) x p e₁)) in
    let rest : items head (item false file) n (map old_row done ++ (old_row x ∷ [])) s p ≡ found (map old_row rows) q =
    ap (λ (l : List ClusterRow). items head (item false file) n l s p) (sym (map-append old_row done (x ∷ []))) ∙ items_old file head n (done ++ (x ∷ [])) s p rows q e₂ in
    items_more head n (item false file) (map old_row done) s at this rest

clusters_old : (file : ℕ) (s : List ℕ) (at : ℕ) (rows : List ClusterRow) (q : ℕ) → cluster_list true false file s at ≡ found rows q
    → cluster_list false false file s at ≡ found (map old_row rows) q
unfolding list_of
clusters_old file s at rows q e = by (list_head (at_most most_clusters) s at) e
  where
    by : (h : Step ListHead) → list_body false (λ _. item true file) s at h ≡ found rows q → list_body false (λ _. item false file) s at h ≡ found (map old_row rows) q
    by (found h stop) e =
        let (p, inner, end) = skipped (in_item at h.count) stop (items at (item true file) h.count [] (take stop s) h.start) rows q e in
        ap (closed_by (in_item at h.count) false stop) (items_old file at h.count [] (take stop s) h.start rows p inner) ∙ ap (found (map old_row rows)) end
    by (refused f) e = never e

-- the payload

-- a footer is found with its old rows
abbrev OldFooter : Footer → ℕ → Step Footer → Type 0
OldFooter f q y = y ≡ found (old_rows f) q

-- what stands in it from the clusters on
abbrev afterwards : Bool → ℕ → Rule Footer
afterwards carried file = cluster_list carried false file >>= λ clusters. link_list false file >>= λ metadata. give (record { clusters = clusters; metadata = metadata })

lists_old : (file : ℕ) (s : List ℕ) (at : ℕ) (f : Footer) (q : ℕ) → afterwards true file s at ≡ found f q → OldFooter f q (afterwards false file s at)
lists_old file s at f q e =
    let made : List ClusterRow → List Link → Rule Footer = λ clusters metadata. give (record { clusters = clusters; metadata = metadata }) in
    let rest : List ClusterRow → Rule Footer = λ clusters. link_list false file >>= made clusters in
    let (rows, p, e₁, k₁) = after_found rest s (cluster_list true false file s at) f q e in
    ap (after rest s) (clusters_old file s at rows p e₁)
    ∙ alike (OldFooter f q) (made rows) (made (map old_row rows)) s (link_list false file s p) (λ links p' k. ap (mapped old_rows) k) k₁

payload_old : (checksum file : ℕ) (s : List ℕ) (at : ℕ) (f : Footer) (q : ℕ) → payload true checksum file false s at ≡ found f q
    → OldFooter f q (payload false checksum file false s at)
unfolding payload
payload_old checksum file s at f q =
    let third : Bool → Rule Footer = λ carried. empty false >> afterwards carried file in
    let second : Bool → Rule Footer = λ carried. empty false >> third carried in
    let first : Bool → Rule Footer = λ carried. tested 4 (names checksum) >> second carried in
    alike (OldFooter f q) (λ _. first true) (λ _. first false) s (features (length s) s at) λ _ p₁.
    alike (OldFooter f q) (λ _. second true) (λ _. second false) s (tested 4 (names checksum) s p₁) λ _ p₂.
    alike (OldFooter f q) (λ _. third true) (λ _. third false) s (empty false s p₂) λ _ p₃.
    alike (OldFooter f q) (λ _. afterwards true file) (λ _. afterwards false file) s (empty false s p₃) λ _ p₄.
    lists_old file s p₄ f q

-- a footer of version 2 or above with minimum 1
footer_old : (checksum file : ℕ) (g : List ℕ) (f : Footer) (q : ℕ) → footer_of checksum file g ≡ found f q → 2 ≤ version_of g → little 2 g 2 ≡ 1
    → footer_by_build first_build checksum file g ≡ found (old_rows f) q
unfolding footer_by_build
footer_old checksum file g f q e newer least =
    let n = length g - 4 in
    let s = take n g in
    let (o, inner) = was_opened this_build (λ (v : Versions). payload (carries this_build v.version) checksum file v.strict) g f q e in
    let lax : strict_of g ≡ false = ne_eqb (version_of g) (little 2 g 2) (λ same. omega (arith, same, newer, least)) in
    let known : carries this_build (version_of g) ≡ true = le-leb 2 (version_of g) newer in
    let inner' : closed false n (payload true checksum file false s 4) ≡ found f q = subst (λ (b : Bool). closed b n (payload true checksum file b s 4) ≡ found f q) lax (subst (λ (b : Bool). closed (strict_of g) n (payload b checksum file (strict_of g) s 4) ≡ found f q) known inner) in
    let (p, was, end) = skipped (λ x. x) n (payload true checksum file false s 4) f q inner' in
    let old : closed false n (payload false checksum file false s 4) ≡ found (old_rows f) q = ap (closed false n) (payload_old checksum file s 4 f p was) ∙ ap (found (old_rows f)) end in
    let o' : Opened first_build g n = record { small = o.small; long = o.long; enough = o.enough; sum = o.sum; least = o.least; order = o.order; read = omega (arith, least) } in
    opens first_build (λ (v : Versions). payload (carries first_build v.version) checksum file v.strict) g n o'
    ∙ ap (λ (b : Bool). closed b n (payload false checksum file b s 4)) lax ∙ old

pub old_build_reads : OldBuildReads
unfolding beside_by_build
old_build_reads header footer file f is newer least =
    let b = both_read 2 (λ _. footer_of (checksum_of header) file footer) (header_of header) f is in
    both_read_is 2 (λ _. footer_by_build first_build (checksum_of header) file footer) (header_of header) (old_rows f) b.header b.place b.stop b.reads (footer_old (checksum_of header) file footer f b.stop b.inner newer least)

-- calls

-- the first four words of each row
rows_old : (rows : List ClusterRow) (rest : List ℕ) → flat old_words (map old_row rows) ≡ without_checksums (length rows) (flat cluster_words rows ++ rest)
unfolding flat without_checksums
rows_old [] rest = refl
rows_old (c ∷ cs) rest = ap (λ (w : List ℕ). old_words c ++ w) (rows_old cs rest)

table_old : (f : Footer) (c₀ c : List ℕ) (n : ℕ) → c ≡ over (cluster_table f) c₀ → n ≡ length f.clusters → old_table (old_rows f) ≡ without_checksums n c
table_old f c₀ c n is count = rows_old f.clusters (drop (length (cluster_table f)) c₀) ∙ sym (λ i. without_checksums (count i) (is i))

-- the clusters that an answer counts
abbrev clusters_in : FooterAnswer → ℕ
clusters_in (Ok counts) = counts.clusters
clusters_in (Err why) = 0

-- a call of the first build that has room
old_call : (x : Beside Footer) (f : Footer) (c₀ c m₀ m : List ℕ) (r : FooterAnswer) → x ≡ read f → old_room (length c₀) (length m₀) f ≡ true → OldAnswered x c₀ c m₀ m r
    → (r ≡ Ok (record { clusters = length f.clusters; metadata = length f.metadata })) × (c ≡ over (old_table f) c₀) × (m ≡ over (metadata_table f) m₀)
unfolding old_answer old_written
old_call x f c₀ c m₀ m r is room call =
    (call.answers ∙ ap (old_answer (length c₀) (length m₀)) is ∙ rw room refl, call.clusters_are ∙ ap (old_written old_table (length c₀) (length m₀) c₀) is ∙ rw room refl, call.metadata_are ∙ ap (old_written metadata_table (length c₀) (length m₀) m₀) is ∙ rw room refl)

pub old_build_calls : OldBuildCalls
old_build_calls e g file c₀ c m₀ m clusters metadata call newer least d₀ d m' r roomy old =
    let k = footer_read_lem e g file (length c₀) (length m₀) (sym (ap (λ (y : FooterAnswer). is_accepted (outcome_of y)) call.answers)) in
    let f = k.footer in
    let left = footer_left (footer_beside e g file) f c₀ c m₀ m (Ok (record { clusters = clusters; metadata = metadata })) k.is k.room call in
    let count : clusters ≡ length f.clusters = ap clusters_in left.answers in
    let many : length (old_rows f).clusters ≡ length f.clusters = length-map f.clusters old_row in
    let few = le-leb (length (old_rows f).clusters) (length d₀ / old_width) (omega (arith, roomy, count, many)) in
    let (_, links) = both_true (leb (length f.clusters) (length c₀ / cluster_width)) (leb (length f.metadata) (length m₀ / link_width)) k.room in
    let room : old_room (length d₀) (length m₀) (old_rows f) ≡ true = rw (few, links) refl in
    let (answers, rows, metadata_are) = old_call (beside_by_build first_build e g file) (old_rows f) d₀ d m₀ m' r (old_build_reads e g file f k.is newer least) room old in
    (answers ∙ ap (λ (n : ℕ). Ok (record { clusters = n; metadata = length f.metadata })) many ∙ sym left.answers, rows ∙ ap (λ (w : List ℕ). over w d₀) (table_old f c₀ c clusters left.clusters count), metadata_are ∙ sym left.metadata)
