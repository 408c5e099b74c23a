pub mod WholeSpans
