use Rattle.sr_cli.proofs.warm.begin.Goals as goal

pub returns : goal.returns
returns c =
    let start = c.in_ok-client in
    record {
      begins = λ bytes read. record {
        starts = record {
          image = c.args.image;
          read = read;
          marks = start.field-0.marks;
          client = start.field-0.client;
          is = record { client = start.ensures.client; start = start.ensures.store; stands = start.ensures.stands };
        };
        text_is = c.in_ok-text.ensures;
        end_is = c.new-end.ensures;
      };
    }
