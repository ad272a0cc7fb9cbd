use Rattle.std.proofs.Common.{arith, rules, ◌≡◌, ℕ, List, [], length, take, map, sum, ap, sym, subst, ◌∙◌, All, Vec, Global}
use Rattle.std.proofs.lemmas.List.Elements.{All-cons}
use Rattle.std.proofs.lemmas.List.{get_or-map, length-map, length-take-le}
use Rattle.parfield.specs.Added.{sum-added_at}
use Rattle.parshelf.specs.Shelf.{IsReadingOf, file_of}
use Rattle.parshelf.proofs.ShelfLaws.{reading}
use Rattle.std.proofs.lemmas.Grind.{common_steps}
use Rattle.parshelf.proofs.shelves.memory.MemShelfShelf.read_at.Goals as goal

pub returns-clause-number : goal.returns-clause-number
returns-clause-number c = search rules steps 1000000

pub returns-clause-piece : goal.returns-clause-piece
returns-clause-piece c = grind (arith, common_steps) steps 400000

pub returns-then-contains-clause-number : goal.returns-then-contains-clause-number
returns-then-contains-clause-number c = search rules steps 1000000

pub returns-then-contains-clause-ok : goal.returns-then-contains-clause-ok
returns-then-contains-clause-ok c = grind (arith, common_steps) steps 100000

pub returns-then-contains-clause-failed : goal.returns-then-contains-clause-failed
returns-then-contains-clause-failed c = grind (arith, common_steps) steps 100000

pub returns-then-contains-clause-failing : goal.returns-then-contains-clause-failing
returns-then-contains-clause-failing c = grind (arith, common_steps) steps 100000

pub returns-then-contains-clause-piece : goal.returns-then-contains-clause-piece
returns-then-contains-clause-piece c = grind (arith, common_steps) steps 100000

pub returns-then-contains-clause-same_piece : goal.returns-then-contains-clause-same_piece
returns-then-contains-clause-same_piece c = grind (arith, common_steps) steps 100000

pub returns-then-contains-clause-same_failing : goal.returns-then-contains-clause-same_failing
returns-then-contains-clause-same_failing c = grind (arith, common_steps) steps 100000

pub index-requires : goal.index-requires
index-requires c = grind (arith, common_steps) steps 100000

pub returns-clause-ok : goal.returns-clause-ok
returns-clause-ok c = grind (arith, common_steps) steps 400000

pub returns-clause-failed : goal.returns-clause-failed
returns-clause-failed c = grind (arith, common_steps) steps 100000

pub returns-clause-failing : goal.returns-clause-failing
returns-clause-failing c = grind (arith, common_steps) steps 1500000

pub returns-clause-same_piece : goal.returns-clause-same_piece
returns-clause-same_piece c = grind (arith, common_steps) steps 100000

pub returns-clause-same_failing : goal.returns-clause-same_failing
returns-clause-same_failing c = grind (arith, common_steps) steps 100000

-- the file has the bytes that the read returned, at its offset
pub invariant_of-self-2-clause-told : goal.invariant_of-self-2-clause-told
invariant_of-self-2-clause-told c =
    let files : List (List ℕ) = map (λ (file : Vec ℕ Global). file.items) c.args.self.now.files.items in
    let copied = c.copy_piece-size.ensures in
    let size : ℕ = c.copy_piece-size.result in
    let buf : List ℕ = c.copy_piece-size.new.buf in
    let count : length (take size buf) ≡ size = length-take-le size buf (omega (arith, copied.size, c.copy_piece-size.auto.buf)) in
    let bytes : List ℕ = c.as_slice-bytes.result.now in
    let content : file_of files c.args.file ≡ bytes
    = get_or-map (λ (file : Vec ℕ Global). file.items) c.args.self.now.files.items c.args.file c.index.result.now [] (omega (arith, c.requires, length-map c.args.self.now.files.items (λ (file : Vec ℕ Global). length file.items)))
    ∙ (ap (λ (file : Vec ℕ Global). file.items) (sym c.index.ensures) ∙ sym c.as_slice-bytes.ensures.value) in
    let last : IsReadingOf files (reading c.args.file c.args.offset (length buf) (take size buf)) = record {
      bytes = rw (count, content) copied.bytes;
      end = λ none room. rw content (omega (arith, none, count, room, copied.size, c.copy_piece-size.auto.buf, c.args.self.now.has_piece));
    } in
    subst (All (IsReadingOf files)) (sym c.add.ensures)
    (All-cons (IsReadingOf files) _ c.args.self.now.readings.readings last c.args.self.now.told)

pub invariant_of-self-2-clause-handed_total : goal.invariant_of-self-2-clause-handed_total
invariant_of-self-2-clause-handed_total c =
    let added = sum-added_at c.args.self.now.handed_by_file.counts c.args.file c.copy_piece-size.result (omega (arith, c.requires, c.args.self.now.handed_each, length-map c.args.self.now.files.items (λ (file : Vec ℕ Global). length file.items))) in
    omega (arith, c.saturating_add-self-2.ensures, ap sum c.add_at-2.ensures, added, c.args.self.now.handed_total)
