-- A running register, while bytes come and others fall out of the window.
use Rattle.std.proofs.Common.{◌≡◌, ℕ, ◌+◌, ◌-◌, ◌<◌, ◌≤◌, List, [], ◌∷◌, ◌++◌, length, take, drop, fold, get_or, refl, sym, ap, ◌∙◌, inl, inr, arith, length-append, length-drop, length-take-le, get_or-drop}
use Rattle.std.proofs.lemmas.Bool.{cases_lt}
use Rattle.std.proofs.lemmas.List.{take_more, get_or-take, take-append-le, take-append-drop, get_or_append_left, get_or-append_right}
use Rattle.std.proofs.lemmas.List.Sums.{fold-append, fold_push}
use Rattle.std.proofs.Math.Seq.{take-add, take-append-add}
use Rattle.circular_buffer.specs.Buffer.{keep_last}
use Rattle.parwindow.specs.Crc32.{register_after}
use Rattle.parwindow.specs.Running.{run_register, IsRun, RunsOver}
use Rattle.parwindow.specs.declared.tails.running.Running.{Running}

-- the running register after some bytes and then others
pub run_register-add : (start : ℕ) (bytes : List ℕ) (d k : ℕ)
    → run_register (run_register start bytes d) (drop d bytes) k ≡ run_register start bytes (d + k)
run_register-add start bytes d k =
    sym (fold-append register_after start (take d bytes) (take k (drop d bytes)))
    ∙ ap (fold register_after start) (sym (take-add d k bytes))

-- the running registers of two lists of bytes, one after the other
pub runs_on : (start : ℕ) (xs ys rs qs : List ℕ) → RunsOver start xs rs
    → RunsOver (fold register_after start xs) ys qs → RunsOver start (xs ++ ys) (rs ++ qs)
runs_on start xs ys rs qs first second = record {
  long = length-append rs qs ∙ omega (arith, first.long, second.long, length-append xs ys);
  each = λ k below. elim (cases_lt k (length xs)) [
    | inl early ↦
        let inside : k < length rs = omega (arith, first.long) in
        get_or_append_left rs qs 0 k inside ∙ first.each k early
        ∙ sym (ap (fold register_after start) (take-append-le k xs ys (omega arith)))
    | inr late ↦
        let sum : length xs + (k - length xs) ≡ k = omega arith in
        let less : k - length xs < length ys = omega (arith, length-append xs ys, below) in
        get_or-append_right rs qs (length xs) k 0 first.long (omega arith)
        ∙ second.each (k - length xs) less
        ∙ sym (fold-append register_after start xs (take (k - length xs) ys))
        ∙ ap (fold register_after start) (sym (take-append-add xs ys (k - length xs))
        ∙ ap (λ n. take n (xs ++ ys)) sum)
  ];
}

-- the running registers without the first bytes
pub runs_from : (start d : ℕ) (bytes registers : List ℕ) → RunsOver start bytes registers
    → RunsOver (run_register start bytes d) (drop d bytes) (drop d registers)
runs_from start d bytes registers runs = record {
  long = omega (arith, length-drop d registers, length-drop d bytes, runs.long);
  each = λ k below.
      get_or-drop d registers k 0
      ∙ runs.each (d + k) (omega (arith, length-drop d bytes))
      ∙ sym (run_register-add start bytes d k);
}

-- the running registers of the last bytes, which the window keeps
pub run_keeps : (size : ℕ) (content bytes registers : List ℕ) (old new : Running)
    → IsRun size content old → RunsOver old.last bytes registers
    → new.last ≡ fold register_after old.last bytes
    → new.before.items ≡ keep_last old.before.capacity (old.before.items ++ registers)
    → new.before.capacity ≡ old.before.capacity
    → IsRun size (keep_last size (content ++ bytes)) new
run_keeps size content bytes registers old new was comes last_is items_is capacity_is =
    let start = was.start in
    let all = runs_on start content bytes old.before.items registers was.before
    (rw was.last at comes) in
    let d : ℕ = length (content ++ bytes) - size in
    let same : length (old.before.items ++ registers) - old.before.capacity ≡ length (content ++ bytes) - size =
    omega (arith, all.long, was.capacity) in
    let kept : new.before.items ≡ drop d (old.before.items ++ registers) =
    items_is ∙ ap (λ n. drop n (old.before.items ++ registers)) same in
    record {
      start = run_register start (content ++ bytes) d;
      capacity = capacity_is ∙ was.capacity;
      before = rw kept (runs_from start d (content ++ bytes) (old.before.items ++ registers) all);
      last = last_is ∙ ap (λ r. fold register_after r bytes) was.last
          ∙ sym (fold-append register_after start content bytes)
          ∙ ap (fold register_after start) (sym (take-append-drop d (content ++ bytes)))
          ∙ fold-append register_after start (take d (content ++ bytes)) (drop d (content ++ bytes));
    }

-- the running register before one byte
pub runs_one : (start byte : ℕ) → RunsOver start (byte ∷ []) (start ∷ [])
runs_one start byte = record {
  long = refl;
  each = λ k below. let first : k ≡ 0 = omega arith in rw first refl;
}

-- the running register after one byte more
pub coming_more : (start : ℕ) (bytes : List ℕ) (i : ℕ) → i < length bytes
    → register_after (run_register start bytes i) (get_or bytes i 0) ≡ run_register start bytes (i + 1)
coming_more start bytes i below =
    sym (ap (fold register_after start) (take_more bytes i 0 below)
    ∙ fold_push register_after start (take i bytes) (get_or bytes i 0))

-- the running registers before all bytes
pub coming_all : (start n : ℕ) (bytes registers : List ℕ) → length bytes ≤ length registers
    → n ≡ length bytes
    → ((k : ℕ) → k < n → get_or registers k 0 ≡ run_register start bytes k)
    → RunsOver start bytes (take (length bytes) registers)
coming_all start n bytes registers few all each = record {
  long = length-take-le (length bytes) registers few;
  each = λ k below.
      get_or-take (length bytes) registers k 0 below ∙ each k (omega (arith, all, below));
}
