-- A run: bytes of a file without a gap, which are the last bytes of a store.
use Rattle.std.proofs.Common.{◌≡◌, ◌≤◌, ◌+◌, ◌-◌, ◌∙◌, ℕ, List, ◌++◌, length, take, drop, ap, sym, arith}
use Rattle.std.proofs.Math.Seq.{take-add}
use Rattle.std.proofs.lemmas.List.{drop-drop, drop-take, take-take, drop-append-le, drop_all, take-append-drop}

-- the bytes of the file from `start` up to `end` are the last bytes that the store holds
abbrev RunAt : List ℕ → List ℕ → ℕ → ℕ → Type 0
RunAt file held start end =
    drop (length held - (end - start)) held ≡ take (end - start) (drop start file)

-- a run of no bytes is at the end of any store
pub run_none : (file held : List ℕ) (at : ℕ) → RunAt file held at at
run_none file held at =
    let zero : at - at ≡ 0 = omega arith in
    let all : length held - 0 ≡ length held = omega arith in
    ap (λ (n : ℕ). drop (length held - n) held) zero
    ∙ (ap (λ (n : ℕ). drop n held) all ∙ (drop_all (length held) held (omega arith) ∙ sym (ap (λ (n : ℕ). take n (drop at file)) zero)))

-- if the file's bytes after a run are appended to the store, they make the run longer
pub run_more : (file held new : List ℕ) (start end last : ℕ) → RunAt file held start end → start ≤ end → end ≤ start + length held
    → end ≤ last → take (length held) new ≡ held → drop (length held) new ≡ take (last - end) (drop end file)
    → length new ≡ length held + (last - end)
    → RunAt file new start last
run_more file held new start end last run low fits more keeps adds size =
    let is : new ≡ held ++ take (last - end) (drop end file)
    = sym (take-append-drop (length held) new)
    ∙ (ap (λ (xs : List ℕ). xs ++ drop (length held) new) keeps ∙ ap (λ (xs : List ℕ). held ++ xs) adds) in
    let part : List ℕ = take (last - end) (drop end file) in
    let at : length new - (last - start) ≡ length held - (end - start) = omega (arith, size) in
    let count : (end - start) + (last - end) ≡ last - start = omega arith in
    let place : start + (end - start) ≡ end = omega arith in
    let behind : drop (end - start) (drop start file) ≡ drop end file
    = drop-drop (end - start) start file ∙ ap (λ (n : ℕ). drop n file) place in
    ap (λ (n : ℕ). drop n new) at
    ∙ (ap (λ (xs : List ℕ). drop (length held - (end - start)) xs) is
    ∙ (drop-append-le (length held - (end - start)) held part (omega arith)
    ∙ (ap (λ (xs : List ℕ). xs ++ part) run
    ∙ (ap (λ (xs : List ℕ). take (end - start) (drop start file) ++ take (last - end) xs) (sym behind)
    ∙ (sym (take-add (end - start) (last - end) (drop start file))
    ∙ ap (λ (n : ℕ). take n (drop start file)) count)))))

-- the bytes of a part of the run, found in the store by counting from its end
pub run_part : (file held : List ℕ) (start end from size : ℕ) → RunAt file held start end → end ≤ start + length held
    → start ≤ from → from + size ≤ end
    → take size (drop (length held - (end - from)) held) ≡ take size (drop from file)
run_part file held start end from size run fits low high =
    let at : (length held - (end - start)) + (from - start) ≡ length held - (end - from) = omega arith in
    let count : end - start ≡ (from - start) + (end - from) = omega arith in
    let place : start + (from - start) ≡ from = omega arith in
    ap (λ (n : ℕ). take size (drop n held)) (sym at)
    ∙ (ap (λ (xs : List ℕ). take size xs) (sym (drop-drop (from - start) (length held - (end - start)) held))
    ∙ (ap (λ (xs : List ℕ). take size (drop (from - start) xs)) run
    ∙ (ap (λ (n : ℕ). take size (drop (from - start) (take n (drop start file)))) count
    ∙ (ap (λ (xs : List ℕ). take size xs) (drop-take (from - start) (end - from) (drop start file))
    ∙ (take-take size (end - from) (drop (from - start) (drop start file)) (omega arith)
    ∙ (ap (λ (xs : List ℕ). take size xs) (drop-drop (from - start) start file)
    ∙ ap (λ (n : ℕ). take size (drop n file)) place))))))
