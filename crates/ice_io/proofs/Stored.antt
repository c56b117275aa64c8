-- Files in memory: what is found in a list of them, and what was stored over them.
use Rattle.std.proofs.Common.{◌≡◌, ◌∙◌, ℕ, ◌+◌, ◌<◌, Bool, true, false, cond, List, ◌∷◌, map, length, drop, get_or, Some, refl, sym, ap}
use Rattle.std.proofs.lemmas.List.{drop_more}
use Rattle.std.proofs.lemmas.Map.Text.{is_eq-slice_cmp}
use Rattle.std.specs.Prelude.{bytes_eq, string_bytes}
use Rattle.std.specs.Ordering.{nat_cmp, eq_by_cmp}
use Rattle.std.specs.Cmp.Lexicographic.{slice_cmp, nat_list_cmp_total}
use Rattle.std.specs.FinMap.{get, insert, find, same_map, get-insert, slice_cmp-IsAntisymmetric, nat_cmp-IsAntisymmetric}
use Rattle.ice_io.specs.declared.named_file.NamedFile.{NamedFile}
use Rattle.ice_io.specs.Files.{FileMap}
use Rattle.ice_io.specs.MemFiles.{entry_of, stored_over}

-- what is found among the files from one on
find_next : (name : List ℕ) (files : List NamedFile) (i : ℕ) (file : NamedFile) → i < length files → file ≡ get_or files i file
    → find (slice_cmp nat_cmp) name (map entry_of (drop i files))
    ≡ cond (bytes_eq name (string_bytes file.name)) (Some file.bytes.items) (find (slice_cmp nat_cmp) name (map entry_of (drop (i + 1) files)))
find_next name files i file within is =
    ap (λ fs. find (slice_cmp nat_cmp) name (map entry_of fs)) (drop_more files i file within ∙ ap (λ f. f ∷ drop (i + 1) files) (sym is))
    ∙ ap (λ b. cond b (Some file.bytes.items) (find (slice_cmp nat_cmp) name (map entry_of (drop (i + 1) files)))) (is_eq-slice_cmp name (string_bytes file.name))

-- a file of that name is found
pub find_here : (name : List ℕ) (files : List NamedFile) (i : ℕ) (file : NamedFile) → i < length files → file ≡ get_or files i file
    → bytes_eq name (string_bytes file.name) ≡ true → find (slice_cmp nat_cmp) name (map entry_of (drop i files)) ≡ Some file.bytes.items
find_here name files i file within is same =
    find_next name files i file within is
    ∙ ap (λ b. cond b (Some file.bytes.items) (find (slice_cmp nat_cmp) name (map entry_of (drop (i + 1) files)))) same

-- a file of another name is passed over
pub find_past : (name : List ℕ) (files : List NamedFile) (i : ℕ) (file : NamedFile) → i < length files → file ≡ get_or files i file
    → bytes_eq name (string_bytes file.name) ≡ false
    → find (slice_cmp nat_cmp) name (map entry_of (drop i files)) ≡ find (slice_cmp nat_cmp) name (map entry_of (drop (i + 1) files))
find_past name files i file within is other =
    find_next name files i file within is
    ∙ ap (λ b. cond b (Some file.bytes.items) (find (slice_cmp nat_cmp) name (map entry_of (drop (i + 1) files)))) other

-- what is found if something was stored under one name
get_inserted : (files : FileMap) (target bytes name : List ℕ) (b : Bool) → bytes_eq name target ≡ b
    → get (insert files target bytes) name ≡ cond b (Some bytes) (get files name)
get_inserted files target bytes name b is =
    get-insert nat_list_cmp_total files target bytes name
    ∙ ap (λ b. cond b (Some bytes) (get files name)) (is_eq-slice_cmp name target ∙ is)

-- what was stored is found under its name
pub get_stored : (files : FileMap) (target bytes name : List ℕ) (stored : Bool) → stored ≡ true → bytes_eq name target ≡ true
    → get (stored_over files target stored bytes) name ≡ Some bytes
get_stored files target bytes name stored is same = ap (λ b. get (stored_over files target b bytes) name) is ∙ get_inserted files target bytes name true same

-- under another name all is as it was
pub get_other : (files : FileMap) (target bytes name : List ℕ) (stored : Bool) → bytes_eq name target ≡ false
    → get (stored_over files target stored bytes) name ≡ get files name
get_other files target bytes name false other = refl
get_other files target bytes name true other = get_inserted files target bytes name false other

-- if nothing was stored, all is as it was
pub get_unstored : (files : FileMap) (target bytes name : List ℕ) (stored : Bool) → stored ≡ false
    → get (stored_over files target stored bytes) name ≡ get files name
get_unstored files target bytes name stored is = ap (λ b. get (stored_over files target b bytes) name) is

-- a test that is repeated
cond_again : {A : Type 0} (b : Bool) (x y z : A) → cond b x (cond b y z) ≡ cond b x z
cond_again true x y z = refl
cond_again false x y z = refl

-- what is stored twice under one name
pub insert_again : (files : FileMap) (name old new : List ℕ) → insert (insert files name old) name new ≡ insert files name new
insert_again files name old new =
    same_map nat_list_cmp_total (slice_cmp-IsAntisymmetric nat_cmp-IsAntisymmetric) _ _
    (λ q. get-insert nat_list_cmp_total (insert files name old) name new q
    ∙ ap (cond (eq_by_cmp (slice_cmp nat_cmp) q name) (Some new)) (get-insert nat_list_cmp_total files name old q)
    ∙ cond_again (eq_by_cmp (slice_cmp nat_cmp) q name) (Some new) (Some old) (get files q)
    ∙ sym (get-insert nat_list_cmp_total files name new q))

-- what is stored takes the place of what was
pub stored_over_stored : (files : FileMap) (name : List ℕ) (stored : Bool) (old bytes : List ℕ)
    → stored_over files name true bytes ≡ insert (stored_over files name stored old) name bytes
stored_over_stored files name false old bytes = refl
stored_over_stored files name true old bytes = sym (insert_again files name old bytes)
