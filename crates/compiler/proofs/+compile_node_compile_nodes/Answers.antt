use Rattle.std.proofs.Common.{◌≡◌, ◌*◌, ◌+◌, ◌-◌, refl, arith, sym, ap, ◌∙◌, List, ℕ}
use Rattle.std.proofs.lemmas.List.Edits.{sets}
use Rattle.meaning.specs.Document.{child, descendant}
use Rattle.sheet.proofs.SpellingLaws.{spelt-width}
use Rattle.program.specs.Program.{row, instruction_at}
use Rattle.compiler.specs.Placing.{Laid}
use Rattle.compiler.proofs.PlacingLaws.{size_is, trees-none, trees-again}
use Rattle.compiler.proofs.RoomLaws.{unpack, child-room, middle, descendant-room, node-is, first-room, rest-room}
use Rattle.compiler.proofs.+compile_node_compile_nodes.Goals as goal

pub compile_node-overflow_add-first : goal.compile_node-overflow_add-first
compile_node-overflow_add-first t c = let o = unpack c.requires.room in let w = spelt-width o.children in let z = size_is (o.below child) in let hd = o.deep in let hr = o.room in let ec = c.links_at-next.ensures.children_value in omega arith

pub compile_node-compile_nodes-c-requires : goal.compile_node-compile_nodes-c-requires
compile_node-compile_nodes-c-requires t c = (let o = unpack c.requires.room in let hd = o.deep in omega arith, (c.requires.s_len_bound, child-room c.requires.room c.links_at-next.ensures.next_value c.links_at-next.ensures.children_value c.links_at-next.ensures.descendants_value))

pub compile_node-overflow_add-middle : goal.compile_node-overflow_add-middle
compile_node-overflow_add-middle t c = let o = unpack c.requires.room in let w = spelt-width o.children in let z = size_is (o.below child) in let hd = o.deep in let hr = o.room in let v = spelt-width o.descendants in let y = size_is (o.below descendant) in let ed = c.links_at-next.ensures.descendants_value in let m = middle c.requires.room c.links_at-next.ensures.next_value c.links_at-next.ensures.children_value c.links_at-next.ensures.descendants_value c.args.store.now c.compile_nodes-c.new.store c.compile_nodes-c.ensures.next_value c.compile_nodes-c.ensures.free_value in let m0 = m.0 in omega arith

pub compile_node-compile_nodes-d-requires : goal.compile_node-compile_nodes-d-requires
compile_node-compile_nodes-d-requires t c = (let o = unpack c.requires.room in let hd = o.deep in omega arith, (c.requires.s_len_bound, descendant-room c.requires.room c.links_at-next.ensures.next_value c.links_at-next.ensures.children_value c.links_at-next.ensures.descendants_value c.args.store.now c.compile_nodes-c.new.store c.compile_nodes-c.ensures.next_value c.compile_nodes-c.ensures.free_value))

pub compile_node-put_instruction-requires-clause-slot_bound : goal.compile_node-put_instruction-requires-clause-slot_bound
compile_node-put_instruction-requires-clause-slot_bound t c = let o = unpack c.requires.room in let w = spelt-width o.children in let z = size_is (o.below child) in let hd = o.deep in let hr = o.room in let ho = o.own in let v = spelt-width o.descendants in let y = size_is (o.below descendant) in let m = middle c.requires.room c.links_at-next.ensures.next_value c.links_at-next.ensures.children_value c.links_at-next.ensures.descendants_value c.args.store.now c.compile_nodes-c.new.store c.compile_nodes-c.ensures.next_value c.compile_nodes-c.ensures.free_value in let m0 = m.0 in (omega arith, (omega arith, omega arith))

pub compile_node-returns : goal.compile_node-returns
compile_node-returns t c = let w = node-is c.requires.room c.links_at-next.ensures.next_value c.links_at-next.ensures.children_value c.links_at-next.ensures.descendants_value c.args.store.now c.compile_nodes-c.new.store c.compile_nodes-c.ensures.next_value c.compile_nodes-c.ensures.free_value c.compile_nodes-c.ensures.store_after in record { next_value = c.compile_nodes-d.ensures.next_value ∙ sym (ap (λ (l : Laid). l.next) w); free_value = c.compile_nodes-d.ensures.free_value ∙ sym (ap (λ (l : Laid). l.free) w); store_after = c.put_instruction.ensures ∙ ap (λ (x : List ℕ). sets x (c.args.slot * 8) (row (instruction_at c.args.s.now c.args.here.next c.args.here.free c.compile_nodes-c.result.free))) c.compile_nodes-d.ensures.store_after ∙ sym (ap (λ (l : Laid). l.store) w) }

pub compile_nodes-loop-to-init : goal.compile_nodes-loop-to-init
compile_nodes-loop-to-init t c =
    let e : c.args.slot + c.args.count - c.args.slot ≡ c.args.count = omega arith in
    record { kept = refl; so_far = rw e refl; room = rw e c.requires.room }

pub compile_nodes-compile_node-here-requires : goal.compile_nodes-compile_node-here-requires
compile_nodes-compile_node-here-requires t c = (omega arith, (c.requires.s_len_bound, first-room (omega arith) c.loop-to.invariant.room))

pub compile_nodes-loop-to-preserved : goal.compile_nodes-loop-to-preserved
compile_nodes-loop-to-preserved t c =
    record {
      kept = omega arith;
      so_far = c.loop-to.invariant.so_far ∙ trees-again _ _ _ (c.args.slot + c.args.count - (c.loop-to.to + 1)) _ _ _ c.loop-to.store c.compile_node-here.new.store (omega arith) c.compile_node-here.ensures.next_value c.compile_node-here.ensures.free_value c.compile_node-here.ensures.store_after;
      room = rest-room c.loop-to.store (c.args.slot + c.args.count - (c.loop-to.to + 1)) (omega arith) c.loop-to.invariant.room c.compile_node-here.ensures.next_value c.compile_node-here.ensures.free_value;
    }

pub compile_nodes-returns : goal.compile_nodes-returns
compile_nodes-returns t c =
    let e = c.loop-to.invariant.so_far ∙ trees-none _ _ _ _ _ _ _ (omega arith) in
    record { next_value = sym (ap (λ (l : Laid). l.next) e); free_value = sym (ap (λ (l : Laid). l.free) e); store_after = sym (ap (λ (l : Laid). l.store) e) }
