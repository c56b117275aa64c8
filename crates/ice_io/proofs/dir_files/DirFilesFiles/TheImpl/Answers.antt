use Rattle.std.proofs.Common.{◌≡◌, ◌<◌, ◌+◌, ℕ, vec_len, arith, ap, refl, Ok, Err, IfOk, IfErr, OnOk, OnErr, Result}
use Rattle.std.specs.Prelude.{⊤}
use Rattle.std.specs.declared.alloc.AllocError.{AllocError}
use Rattle.ice_io.specs.declared.files.ContentFault.{ContentFault}
use Rattle.ice_io.specs.declared.files.ContentFault.TheVariants.{Memory, Store}
use Rattle.ice_io.specs.DirFiles.{FileCounts, after_bytes, after_load_fault}
use Rattle.ice_io.specs.Faults.{Rose, RoseBy, counted_by}
use Rattle.ice_io.specs.Files.{CountsStore}
use Rattle.ice_io.proofs.dir_files.DirFilesFiles.TheImpl.Goals as goal

-- a fact that always holds, if the call succeeded
always : {T E : Type 0} (r : Result T E) → IfOk r (λ _. ⊤)
always (Ok x) = tt
always (Err e) = tt

-- a fact that always holds after others, if the call succeeded
endless : {E : Type 0} (room : ℕ) (r : Result ℕ E) → IfOk r (λ n. n ≡ 0 → 0 < room → ⊤)
endless room (Ok n) = λ _ _. tt
endless room (Err e) = tt

-- a fact, if the call succeeded
on_ok : {T E P : Type 0} (r : Result T E) → P → OnOk r P
on_ok (Ok x) p = p
on_ok (Err e) p = tt

-- what follows from a fact, if the call failed
on_err : {T E P Q : Type 0} (r : Result T E) → (P → Q) → OnErr r P → OnErr r Q
on_err (Ok x) f p = tt
on_err (Err e) f p = f p

-- what follows from a fact of the value, if the call succeeded
if_ok : {T E : Type 0} {P Q : T → Type 0} (r : Result T E) → ((x : T) → P x → Q x) → IfOk r P → IfOk r Q
if_ok (Ok x) f p = f x p
if_ok (Err e) f p = tt

-- the count of bytes rose by those that were read
rose_by : (old new : FileCounts) (n : ℕ) → new ≡ after_bytes old n → RoseBy n old.bytes_read new.bytes_read
rose_by old new n same =
    let count : new.bytes_read ≡ counted_by old.bytes_read n = ap (λ (s : FileCounts). s.bytes_read) same in
    (omega (arith, count), omega (arith, count))

-- and not at all if the call failed
unread : (old new : FileCounts) → new ≡ after_load_fault old → new.bytes_read ≡ old.bytes_read
unread old new same = ap (λ (s : FileCounts). s.bytes_read) same

pub load-tells : goal.load-tells
load-tells g c = record {
  bytes = always c.result;
  within = c.ensures.within;
  too_long = λ _. tt;
  read = if_ok c.result (λ bytes. rose_by c.args.self.now c.new.self.now (vec_len bytes)) c.ensures.read;
  bytes_never_fall = c.ensures.bytes_never_fall;
  read_past = λ past. rose_by c.args.self.now c.new.self.now (c.args.limit + 1) (c.ensures.read_past past);
  lacks = λ _ _. tt;
  failed = λ h. omega (arith, ap (λ (s : FileCounts). s.load_faults) (c.ensures.failed h));
  same_contents = refl;
  same_steady = refl;
  never_falls = c.ensures.never_falls;
  same_stores = c.ensures.same_stores;
  same_store_faults = c.ensures.same_store_faults;
}

pub read_at-tells : goal.read_at-tells
read_at-tells g c = record {
  count = c.ensures.count;
  bytes = always c.result;
  end = endless _ c.result;
  read = if_ok c.result (λ n. rose_by c.args.self.now c.new.self.now n) c.ensures.counted;
  bytes_never_fall = c.ensures.bytes_never_fall;
  unread = on_err c.result (unread c.args.self.now c.new.self.now) c.ensures.failed;
  lacks = on_err c.result (λ _ _. tt) c.ensures.failed;
  failed = on_err c.result (λ h. omega (arith, ap (λ (s : FileCounts). s.load_faults) h)) c.ensures.failed;
  same_contents = refl;
  same_steady = refl;
  never_falls = c.ensures.never_falls;
  same_stores = c.ensures.same_stores;
  same_store_faults = c.ensures.same_store_faults;
}

pub store-tells : goal.store-tells
store-tells g c = record {
  whole = on_ok c.result refl;
  part = c.ensures.part;
  begun = c.ensures.begun;
  failed = on_err c.result (λ h. omega (arith, ap (λ (s : FileCounts). s.store_faults) h)) c.ensures.failed;
  same_steady = refl;
  never_falls = c.ensures.never_falls;
  same_bytes_read = c.ensures.same_bytes_read;
  same_load_faults = c.ensures.same_load_faults;
}

-- a store of content that failed was counted
counts_store : {T P : Type 0} (old new : ℕ) (W : ContentFault → Type 0) (r : Result T ContentFault) → (P → Rose old new) → ((e : AllocError) → W (Memory e) → ⊥)
    → OnErr r P → IfErr r W → IfErr r (CountsStore old new)
counts_store old new W (Ok x) rose none failed were = tt
counts_store old new W (Err (Store fault)) rose none failed were = rose failed
counts_store old new W (Err (Memory e)) rose none failed were = absurd (none e were)

pub store_content-tells : goal.store_content-tells
store_content-tells g c = record {
  whole = on_ok c.result refl;
  part = c.ensures.part;
  begun = c.ensures.begun;
  failed = counts_store c.args.self.now.store_faults c.new.self.now.store_faults _ c.result (λ h. omega (arith, ap (λ (s : FileCounts). s.store_faults) h)) (λ e were. were) c.ensures.failed c.ensures.first;
  same_steady = refl;
  never_falls = c.ensures.never_falls;
  same_bytes_read = c.ensures.same_bytes_read;
  same_load_faults = c.ensures.same_load_faults;
}
